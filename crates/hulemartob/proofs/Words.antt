-- A list of stored numbers, read as values of the kind of a number.
--     words-told
-- Assumes nothing.
use Rattle.format.specs.declared.Refusal.{Refusal}
use Rattle.format.specs.Refusals.{answered_by}
use Rattle.std.specs.Prelude.{Result, Ok, Err}
use Prim.Native.Nat.{ℕ}
use mathlib.Core.Path.{◌≡◌, ap, ◌∙◌}
use mathlib.Core.List.{List}
use Rattle.format.specs.declared.Kind.{Kind}
use Rattle.monotonic_mapping.specs.Words.{words_as}
use Rattle.monotonic_mapping.proofs.Mapped.{plain_words}
use Rattle.c_numbers.specs.Kinds.{kind_from, kind_of}
use Rattle.c_numbers.specs.Numbers.{filled}
use Rattle.hulemartob.specs.Calls.{words_from}

-- a number that is no kind stands for plain numbers, which are their own words
pub words-told : (known : Result Kind Refusal) (kind : Kind) (n : ℕ) (us after : List ℕ) → answered_by known ≡ kind_from n → kind ≡ kind_of known → after ≡ words_as kind us → after ≡ filled (words_from n us) us
words-told (Ok k) kind n us after e f g = rw (← e) (g ∙ ap (λ (x : Kind). words_as x us) f)
words-told (Err r) kind n us after e f g = rw (← e) (g ∙ ap (λ (x : Kind). words_as x us) f ∙ plain_words us)
