-- How many bytes of two columns differ, and how many rows they name.
-- Assumes nothing.
use Rattle.std.specs.Prelude.{ℕ, zero, suc, ◌+◌, ◌-◌, ◌^◌, ◌≤◌, ◌<◌, max, List, eqb, length, get_or, Option, Some, None}
use Rattle.format.specs.Outcome.{pick}
use Rattle.text_blame_bytes.specs.declared.counting.Tally.{Tally}

-- one byte more, with the rows that it names: those from `next` on are not counted yet, since rows are named in ascending order
abbrev pub with_byte : Tally → Option (ℕ × ℕ) → Tally
with_byte k None = record { bytes = k.bytes + 1; rows = k.rows; next = k.next }
with_byte k (Some (first, last)) = record {
  bytes = k.bytes + 1;
  rows = k.rows + (last + 1 - max first k.next);
  next = max k.next (last + 1);
}

-- the bytes that differ among n from offset i on, and their rows, with those counted before
unfoldable pub tally_from : (owners : ℕ → Option (ℕ × ℕ)) (s t : List ℕ) (i n : ℕ) → Tally → Tally
tally_from owners s t i zero k = k
tally_from owners s t i (suc n) k = tally_from owners s t (suc i) n (pick (eqb (get_or s i 0) (get_or t i 0)) k (with_byte k (owners i)))

-- all of them
abbrev pub tallied : (owners : ℕ → Option (ℕ × ℕ)) (s t : List ℕ) → Tally
tallied owners s t = tally_from owners s t 0 (length s) (record { bytes = 0; rows = 0; next = 0 })

-- ---- what can still be counted on

-- one byte more can be counted; the rows that were counted lie below the next, and that has at most 33 bits
pub record Countable (k : Tally) : Type 0 where
  pub more : k.bytes + 1 < 2 ^ 64
  pub rows : k.rows ≤ k.next
  pub next : k.next ≤ 2 ^ 32

-- at most a byte further, and rows as before
pub record Counted (k m : Tally) : Type 0 where
  pub bytes : m.bytes ≤ k.bytes + 1
  pub rows : m.rows ≤ m.next
  pub next : m.next ≤ 2 ^ 32
