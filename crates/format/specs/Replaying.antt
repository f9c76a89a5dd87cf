-- Replaying recorded lookups: what a recording holds, when it is refused, and which record's lookup differs first.
-- Assumes nothing.
use Rattle.std.specs.Prelude.{ℕ, zero, suc, ◌+◌, ◌-◌, ◌*◌, min, Bool, true, false, ◌&&◌, ◌||◌, List, [], ◌∷◌, leb, eqb, length, take, drop, Option, Some, None}
use Rattle.format.specs.declared.Report.{Report}
use Rattle.format.specs.declared.Recording.{Recording}
use Rattle.format.specs.declared.Recorded.{Recorded}
use Rattle.format.specs.Outcome.{Outcome, Outcome.value, Outcome.refusal, ◌>>◌, demand, pick}
use Rattle.format.specs.Packing.{bytes_num}
use Rattle.format.specs.Lookup.{all_read, rows_passing, within}

-- ---- what a recording holds

-- the number in n bytes at an offset, little end first; 0 where they leave the recording
unfoldable pub number_at : (n : ℕ) (s : List ℕ) (at : ℕ) → ℕ
number_at n s at = pick (leb (at + n) (length s)) (bytes_num (take n (drop at s))) 0

-- the header: how many records, their offset, how many row numbers, their offset
unfoldable pub header_of : (s : List ℕ) → Recording
header_of s = record { records = number_at 4 s 0; start = number_at 4 s 4; numbers = number_at 4 s 8; list = number_at 4 s 12 }

-- record k, of 32 bytes
unfoldable pub record_at : Recording → (s : List ℕ) (k : ℕ) → Recorded
record_at h s k =
    let at = h.start + 32 * k in
    record {
      low = number_at 8 s at;
      high = number_at 8 s (at + 8);
      first = number_at 4 s (at + 16);
      end = number_at 4 s (at + 20);
      place = number_at 4 s (at + 24);
      many = number_at 4 s (at + 28);
    }

-- row number j of the list, of 4 bytes
unfoldable pub listed_at : Recording → (s : List ℕ) (j : ℕ) → ℕ
listed_at h s j = number_at 4 s (h.list + 4 * j)

-- n row numbers of the list from the one at j on
unfoldable pub listed_from : Recording → (s : List ℕ) (j n : ℕ) → List ℕ
listed_from h s j zero = []
listed_from h s j (suc n) = listed_at h s j ∷ listed_from h s (suc j) n

-- ---- when it is refused

-- a region of n entries of so many bytes lies behind the header, in a recording of so many bytes; an empty one's offset is not tested
abbrev pub in_place : (n size at long : ℕ) → Bool
in_place n size at long = eqb n 0 || (leb 16 at && leb (at + size * n) long)

-- the two regions do not overlap: one of them is empty, or ends before the other begins
abbrev pub apart : Recording → Bool
apart h =
    eqb h.records 0 || (eqb h.numbers 0 || (leb (h.start + 32 * h.records) h.list || leb (h.list + 4 * h.numbers) h.start))

-- the row numbers of n records from k on stand in the list
unfoldable pub placed : Recording → (s : List ℕ) (k n : ℕ) → Bool
placed h s k zero = true
placed h s k (suc n) = leb ((record_at h s k).place + (record_at h s k).many) h.numbers && placed h s (suc k) n

-- the regions of a header, in a recording of so many bytes
abbrev pub regions : Recording → (long : ℕ) → Bool
regions h long = in_place h.records 32 h.start long && (in_place h.numbers 4 h.list long && apart h)

-- whether a recording is one: its header, its regions, and every record's row numbers
unfoldable pub is_recording : (s : List ℕ) → Bool
is_recording s = leb 16 (length s) && (regions (header_of s) (length s) && placed (header_of s) s 0 (header_of s).records)

-- ---- replaying, over any reading of so many rows

-- whether two lists of rows are the same
unfoldable pub same_rows : (xs ys : List ℕ) → Bool
same_rows [] [] = true
same_rows [] (y ∷ ys) = false
same_rows (x ∷ xs) [] = false
same_rows (x ∷ xs) (y ∷ ys) = eqb x y && same_rows xs ys

-- whether what a lookup found is the recorded rows; one that a row refuses found none
abbrev pub are_rows : (recorded : List ℕ) → Outcome (List ℕ) → Bool
are_rows recorded (value found) = same_rows found recorded
are_rows recorded (refusal number also) = false

-- whether n rows from r on are all read, and those whose value passes a test are the recorded ones
unfoldable pub found_are : (read : ℕ → Outcome ℕ) (test : ℕ → Bool) (r n : ℕ) (recorded : List ℕ) → Bool
found_are read test r n recorded = are_rows recorded (all_read read r n >> value (rows_passing read test r n))

-- whether a record's lookup, its rows cut to so many, finds its recorded rows; one that a row refuses does not
unfoldable pub agrees : (read : ℕ → Outcome ℕ) (rows : ℕ) → Recording → (s : List ℕ) (k : ℕ) → Bool
agrees read rows h s k =
    let r = record_at h s k in
    found_are read (within r.low r.high) r.first (min r.end rows - r.first) (listed_from h s r.place r.many)

-- the first of n records from k on that does not
unfoldable pub first_differing : (agree : ℕ → Bool) (k n : ℕ) → Option ℕ
first_differing agree k zero = None
first_differing agree k (suc n) = pick (agree k) (first_differing agree (suc k) n) (Some k)

-- what a replay of so many records reports: up to that record, if there is one, or all
abbrev pub reported : (records : ℕ) → Option ℕ → Report
reported records None = record { differing = None; run = records }
reported records (Some k) = record { differing = Some k; run = k + 1 }

-- replaying a recording; what is none is refused before any lookup
unfoldable pub replayed : (read : ℕ → Outcome ℕ) (rows : ℕ) (s : List ℕ) → Outcome Report
replayed read rows s = do
  demand (is_recording s) 19 []
  let records = (header_of s).records
  value (reported records (first_differing (agrees read rows (header_of s) s) 0 records))
