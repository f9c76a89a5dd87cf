-- A search for the first difference under way. Over any two readings.
-- Assumes nothing.
use Rattle.std.specs.Prelude.{ℕ, ◌+◌, ◌-◌, ◌/◌, ◌%◌, ◌^◌, ◌≤◌, ◌<◌, max, ◌≡◌, true, List, ltb, length, None}
use Rattle.format.specs.declared.Block.{Block}
use Rattle.format.specs.declared.Column.{Column}
use Rattle.format.specs.Outcome.{Outcome, pick}
use Rattle.format.specs.Reading.{column_row, block_at, row_at}
use Rattle.compare_walk.specs.declared.walking.Walk.{Walk}
use Rattle.compare_walk.specs.Differences.{first_difference, difference_meaning}

-- two readings agree on n rows from r on
abbrev pub Same : (read other : ℕ → Outcome ℕ) (r n : ℕ) → Type 0
Same read other r n = (x : ℕ) → r ≤ x → x < r + n → read x ≡ other x

-- going on with a row, up to an end: where none is left, nothing differs
abbrev pub onwards : (at end : ℕ) → Walk
onwards at end = record { at = at; end = end; going = ltb at end; answer = None }

-- the rows left
abbrev pub to_go : Walk → ℕ
to_go w = pick w.going (w.end - w.at) 0

-- going on, up to the last of so many rows
pub record UnderWay (rows : ℕ) (w : Walk) : Type 0 where
  pub on : w.going ≡ true
  pub to : w.at < w.end
  pub all : w.end ≡ rows

-- with a row at hand, before which nothing differs from the given row on
pub record OnHand (left right : ℕ → Outcome ℕ) (rows from : ℕ) (w : Walk) : Type 0 where
  pub going : UnderWay rows w
  pub rest : first_difference left right rows from ≡ first_difference left right rows w.at

-- a search under way: with a row at hand, or over
pub record Seeking (left right : ℕ → Outcome ℕ) (rows from : ℕ) (w : Walk) : Type 0 where
  pub phase : pick w.going (OnHand left right rows from w) (difference_meaning w.answer ≡ first_difference left right rows from)

-- a search under way by the columns' own rows
abbrev pub ByRows : (left : Column) (ltable : List Block) (lbytes : List ℕ) (right : Column) (rtable : List Block) (rbytes : List ℕ) (from : ℕ) (w : Walk) → Type 0
ByRows left ltable lbytes right rtable rbytes = Seeking (row_at left ltable lbytes) (row_at right rtable rbytes) (max left.window.rows right.window.rows)

-- a turn with each side's block of the row at hand, out of its table of so many, goes on with a search by those tables
abbrev pub Keeps : (left : Column) (lblocks : ℕ) (lblock : Block) (lbytes : List ℕ) (right : Column) (rblocks : ℕ) (rblock : Block) (rbytes : List ℕ) (w r : Walk) → Type 0
Keeps left lblocks lblock lbytes right rblocks rblock rbytes w r =
    (ltable rtable : List Block) (from : ℕ)
    → lblocks ≡ length ltable → lblock ≡ block_at ltable (column_row left w.at % 2 ^ 32 / 512)
    → rblocks ≡ length rtable → rblock ≡ block_at rtable (column_row right w.at % 2 ^ 32 / 512)
    → ByRows left ltable lbytes right rtable rbytes from w → ByRows left ltable lbytes right rtable rbytes from r
