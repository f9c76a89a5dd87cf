-- A replay under way: what is left of the record at hand and of those behind it. Over any reading.
-- Assumes nothing.
use Rattle.format.specs.Refusals.{answered_by}
use Rattle.std.specs.Prelude.{ℕ, ◌+◌, ◌-◌, ◌*◌, ◌/◌, ◌%◌, ◌^◌, ◌≤◌, ◌<◌, ◌≡◌, Bool, true, false, List, ◌++◌, length}
use Rattle.format.specs.declared.Block.{Block}
use Rattle.format.specs.declared.Column.{Column}
use Rattle.format.specs.declared.Recording.{Recording}
use Rattle.format.specs.declared.Recorded.{Recorded}
use Rattle.format.specs.Lookup.{within}
use Rattle.format.specs.Outcome.{Outcome, pick}
use Rattle.format.specs.Reading.{column_row, block_at, row_at}
use Rattle.format.specs.Replaying.{header_of, listed_from, is_recording, same_rows, found_are, agrees, first_differing, replayed}
use Rattle.replay_walk.specs.declared.walking.Walk.{Walk}

-- the recorded rows of a record behind the first n
abbrev pub to_come : Recording → (s : List ℕ) → Recorded → (n : ℕ) → List ℕ
to_come h s r n = listed_from h s (r.place + n) (r.many - n)

-- what is left: the records behind the one at hand, each of fewer than 2^32 rows, and its own rows
abbrev pub left : Walk → ℕ
left w = pick w.going ((w.head.records - w.k) * 2 ^ 32 + (w.end - w.at)) 0

-- a recording whose records before k agree
pub record Onward (read : ℕ → Outcome ℕ) (rows : ℕ) (s : List ℕ) (h : Recording) (k : ℕ) : Type 0 where
  pub header : h ≡ header_of s
  pub sound : is_recording s ≡ true
  pub rest : first_differing (agrees read rows h s) 0 h.records ≡ first_differing (agrees read rows h s) k (h.records - k)

-- a record at hand, with rows left
pub record UnderWay (rows : ℕ) (w : Walk) : Type 0 where
  pub on : w.going ≡ true
  pub listed : w.k < w.head.records
  pub to : w.at < w.end
  pub inside : w.end ≤ rows
  pub few : w.n ≤ w.item.many

-- the records before it agree, and it does if the recorded rows still to come are those still to be found
pub record OnHand (read : ℕ → Outcome ℕ) (rows : ℕ) (s : List ℕ) (w : Walk) : Type 0 where
  pub going : UnderWay rows w
  pub onward : Onward read rows s w.head w.k
  pub here : agrees read rows w.head s w.k
      ≡ found_are read (within w.item.low w.item.high) w.at (w.end - w.at) (to_come w.head s w.item w.n)

-- a replay under way: with a record at hand, or over
pub record Replaying (read : ℕ → Outcome ℕ) (rows : ℕ) (s : List ℕ) (w : Walk) : Type 0 where
  pub phase : pick w.going (OnHand read rows s w) (answered_by w.answer ≡ replayed read rows s)

-- a turn with the block of the row at hand, out of a table of so many, goes on with a replay by that table
abbrev pub Keeps : (column : Column) (blocks : ℕ) (block : Block) (bytes s : List ℕ) (w r : Walk) → Type 0
Keeps column blocks block bytes s w r =
    (table : List Block) → blocks ≡ length table → block ≡ block_at table (column_row column w.at % 2 ^ 32 / 512)
    → Replaying (row_at column table bytes) column.window.rows s w → Replaying (row_at column table bytes) column.window.rows s r

-- what n of the recorded rows at hand leave to come once some rows were found: the same, or none can be
abbrev pub Meets : (h : Recording) (s : List ℕ) (item : Recorded) (found : List ℕ) (n more : ℕ) (same : Bool) → Type 0
Meets h s item found n more same = (rest : List ℕ) → same_rows (found ++ rest) (to_come h s item n) ≡ pick same (same_rows rest (to_come h s item more)) false
