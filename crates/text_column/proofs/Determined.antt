-- What opening within a program's limits and narrowing what was opened promise determines the answer: two results that it allows coincide.
--     open_plain_determined, narrow_determined
-- Assumes nothing.
use Rattle.format.specs.declared.Refusal.{Refusal}
use Rattle.text_column.specs.declared.own.Own.{Own}
use Rattle.std.specs.Prelude.{Option, Result, Ok, Err}
use Prim.Native.Nat.{ℕ}
use mathlib.Core.Path.{◌≡◌, refl, sym, ap, ◌∙◌}
use mathlib.Core.List.{List}
use Rattle.format.specs.declared.Column.{Column}
use Rattle.format.proofs.Answers.{answered_injective, narrowed_injective}
use Rattle.blockwise_linear.specs.declared.passing.Pass.{Pass}
use Rattle.text_column.specs.Calls.{OpensHereAs, NarrowsAs}
use Rattle.text_column.specs.Own.{narrowed_in, own_in}

-- two answers of `open_plain`
pub open_plain_determined : (s : List ℕ) (a b : Result (Column × Option ℕ) Refusal) → OpensHereAs s a → OpensHereAs s b → a ≡ b
open_plain_determined s a b p q = answered_injective a b (p ∙ sym q)

-- an answer of `own::narrow`, by that of the column alone and the pass
abbrev again : Result Column (Refusal × Column) → Pass → Result Own (Refusal × Own)
again (Ok c) p = Ok (record { column = c; pass = p })
again (Err (why, c)) p = Err (why, record { column = c; pass = p })

again_same : (a : Result Own (Refusal × Own)) → again (narrowed_in a) (own_in a).pass ≡ a
again_same (Ok o) = refl
again_same (Err (why, o)) = refl

-- two answers of `own::narrow`
pub narrow_determined : (c : Column) (p : Pass) (first count : ℕ) (a b : Result Own (Refusal × Own)) → NarrowsAs c p first count a → NarrowsAs c p first count b → a ≡ b
narrow_determined c p first count a b m n =
    sym (again_same a)
    ∙ ap (λ (r : Result Column (Refusal × Column)). again r (own_in a).pass) (narrowed_injective (narrowed_in a) (narrowed_in b) (m.0 ∙ sym n.0))
    ∙ ap (again (narrowed_in b)) (m.1 ∙ sym n.1)
    ∙ again_same b
