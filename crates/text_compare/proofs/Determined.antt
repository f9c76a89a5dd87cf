-- What the comparison's calls promise determines what they answer and what every lent entry holds afterwards: two results that it allows coincide.
--     begin_determined, row_count_determined, fill_lines_determined, end_line_determined
-- Assumes nothing.
use Rattle.text_column.specs.declared.own.Own.{Own}
use Rattle.std.specs.Prelude.{Result}
use Prim.Native.Nat.{ℕ}
use mathlib.Core.Path.{◌≡◌, sym, ◌∙◌}
use mathlib.Core.List.{List}
use Rattle.format.specs.declared.Column.{Column}
use Rattle.format.specs.Listing.{opened_here}
use Rattle.text_compare.specs.declared.Compared.{Compared}
use Rattle.text_compare.specs.Beginning.{BegunAs}
use Rattle.text_compare.specs.Chunk.{CountedAs, ComparedAs, EndedAs}

-- two answers of `begin`, and what the lent line holds afterwards
pub begin_determined : (s t line : List ℕ) (a b : Result (Own × Own) ℕ) (new new' : List ℕ)
    → BegunAs s t (opened_here s) (opened_here t) a line new → BegunAs s t (opened_here s) (opened_here t) b line new' → (a ≡ b) × (new ≡ new')
begin_determined s t line a b new new' p q = (p.answer ∙ sym q.answer, p.line ∙ sym q.line)

-- two answers of `row_count`
pub row_count_determined : (left right : Column) (a b : ℕ) → CountedAs left right a → CountedAs left right b → a ≡ b
row_count_determined left right a b p q = p ∙ sym q

-- two answers of `fill_lines`, and what the lent buffer holds afterwards
pub fill_lines_determined : (left : Column) (s : List ℕ) (right : Column) (t : List ℕ) (from : ℕ) (out : List ℕ) (a b : Compared) (new new' : List ℕ)
    → ComparedAs left s right t from a out new → ComparedAs left s right t from b out new' → (a ≡ b) × (new ≡ new')
fill_lines_determined left s right t from out a b new new' p q = (p.0 ∙ sym q.0, p.1.0 ∙ sym q.1.0)

-- two answers of `end_line`, and what the lent line holds afterwards
pub end_line_determined : (lines : ℕ) (line : List ℕ) (a b : ℕ) (new new' : List ℕ) → EndedAs lines a line new → EndedAs lines b line new' → (a ≡ b) × (new ≡ new')
end_line_determined lines line a b new new' p q = (p.0.ends ∙ sym q.0.ends, p.0.list ∙ sym q.0.list)
