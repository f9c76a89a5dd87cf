-- What the explanation's calls promise determines what they answer and what every lent entry holds afterwards: two results that it allows coincide.
--     begin_determined, fill_lines_determined
-- Assumes nothing.
use Rattle.std.specs.Prelude.{Result}
use Prim.Native.Nat.{ℕ}
use mathlib.Core.Path.{◌≡◌, sym, ◌∙◌}
use mathlib.Core.List.{List}
use Rattle.format.specs.declared.Column.{Column}
use Rattle.format.specs.Listing.{opened_here}
use Rattle.text_explain.specs.declared.Told.{Told}
use Rattle.text_explain.specs.Chunk.{BegunAs, ToldAs}

-- two answers of `begin`, and what the lent line holds afterwards
pub begin_determined : (s line : List ℕ) (a b : Result Column ℕ) (new new' : List ℕ) → BegunAs (opened_here s) a line new → BegunAs (opened_here s) b line new' → (a ≡ b) × (new ≡ new')
begin_determined s line a b new new' p q = (p.answer ∙ sym q.answer, p.line ∙ sym q.line)

-- two answers of `fill_lines`, and what the lent buffer holds afterwards
pub fill_lines_determined : (column : Column) (s : List ℕ) (from : ℕ) (out : List ℕ) (a b : Told) (new new' : List ℕ)
    → ToldAs column s from a out new → ToldAs column s from b out new' → (a ≡ b) × (new ≡ new')
fill_lines_determined column s from out a b new new' p q = (p.0 ∙ sym q.0, p.1.0 ∙ sym q.1.0)
