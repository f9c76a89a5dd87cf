-- What the listing's calls promise determines what they answer and what every lent entry holds afterwards: two results that it allows coincide.
--     begin_determined, fill_lines_determined, end_line_determined
-- Assumes nothing.
use Rattle.text_column.specs.declared.own.Own.{Own}
use Rattle.std.specs.Prelude.{Result}
use Prim.Native.Nat.{ℕ}
use mathlib.Core.Path.{◌≡◌, sym, ◌∙◌}
use mathlib.Core.List.{List}
use Rattle.format.specs.declared.Column.{Column}
use Rattle.format.specs.Listing.{opened_here}
use Rattle.text.specs.declared.Filled.{Filled}
use Rattle.text_list.specs.Beginning.{BegunAs}
use Rattle.text_list.specs.Chunk.{FilledAs, EndedAs}

-- two answers of `begin`, and what the lent line holds afterwards
pub begin_determined : (s line : List ℕ) (a b : Result (Own × ℕ) (ℕ × ℕ)) (new new' : List ℕ)
    → BegunAs s (opened_here s) a line new → BegunAs s (opened_here s) b line new' → (a ≡ b) × (new ≡ new')
begin_determined s line a b new new' p q = (p.answer ∙ sym q.answer, p.line ∙ sym q.line)

-- two answers of `fill_lines`, and what the lent buffer holds afterwards
pub fill_lines_determined : (column : Column) (s : List ℕ) (from : ℕ) (out : List ℕ) (a b : Filled) (new new' : List ℕ)
    → FilledAs column s from a out new → FilledAs column s from b out new' → (a ≡ b) × (new ≡ new')
fill_lines_determined column s from out a b new new' p q = (p.0 ∙ sym q.0, p.1.0 ∙ sym q.1.0)

-- two answers of `end_line`, and what the lent line holds afterwards
pub end_line_determined : (column : Column) (line : List ℕ) (a b : ℕ) (new new' : List ℕ) → EndedAs column a line new → EndedAs column b line new' → (a ≡ b) × (new ≡ new')
end_line_determined column line a b new new' p q = (p.0.ends ∙ sym q.0.ends, p.0.list ∙ sym q.0.list)
