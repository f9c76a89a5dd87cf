-- What the blame's calls promise determines what they answer and what every lent entry holds afterwards: two results that it allows coincide.
--     begin_determined, fill_lines_determined, end_line_determined
-- Assumes nothing.
use Rattle.std.specs.Prelude.{Result}
use Prim.Native.Nat.{ℕ}
use mathlib.Core.Path.{◌≡◌, sym, ◌∙◌}
use mathlib.Core.List.{List}
use Rattle.format.specs.declared.Column.{Column}
use Rattle.text_blame.specs.declared.Looked.{Looked}
use Rattle.text_blame.specs.Beginning.{Start, BegunAs}
use Rattle.text_blame.specs.Chunk.{LookedAs, EndedAs}

-- two answers of `begin`, and what the lent line holds afterwards
pub begin_determined : (start : Start) (line : List ℕ) (a b : Result (Column × Column) ℕ) (new new' : List ℕ) → BegunAs start a line new → BegunAs start b line new' → (a ≡ b) × (new ≡ new')
begin_determined start line a b new new' p q = (p.answer ∙ sym q.answer, p.line ∙ sym q.line)

-- two answers of `fill_lines`, and what the lent buffer holds afterwards
pub fill_lines_determined : (left : Column) (s : List ℕ) (right : Column) (t : List ℕ) (from : ℕ) (out : List ℕ) (a b : Looked) (new new' : List ℕ)
    → LookedAs left s right t from a out new → LookedAs left s right t from b out new' → (a ≡ b) × (new ≡ new')
fill_lines_determined left s right t from out a b new new' p q = (p.0 ∙ sym q.0, p.1.0 ∙ sym q.1.0)

-- two answers of `end_line`, and what the lent line holds afterwards
pub end_line_determined : (column : Column) (s t line : List ℕ) (a b : ℕ) (new new' : List ℕ) → EndedAs column s t a line new → EndedAs column s t b line new' → (a ≡ b) × (new ≡ new')
end_line_determined column s t line a b new new' p q = (p.0.ends ∙ sym q.0.ends, p.0.list ∙ sym q.0.list)
