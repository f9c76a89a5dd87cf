-- Cases of recordings, computed: one for each side of each rule.
-- Assumes nothing.
use Rattle.format.specs.declared.Report.{Report}
use Rattle.std.specs.Prelude.{Some, None}
use Prim.Native.Nat.{ℕ, zero, suc}
use mathlib.Core.Path.{◌≡◌, refl}
use mathlib.Core.Bool.{true, false}
use mathlib.Core.List.{List, [], ◌∷◌, ◌++◌, map}
use Rattle.format.specs.Outcome.{Outcome, Outcome.value, Outcome.refusal}
use Rattle.format.specs.declared.Codec.TheVariants.{Bitpacked}
use Rattle.format.specs.declared.Column.{Column}
use Rattle.format.specs.Packing.{bytes_num, num_bytes, unpack, rows_bits, bits_of, num_of, width, bit_length, bits_in}
use Rattle.format.specs.Reading.{row_at, row_in, place_in, column_fits, row_fits, fits, packed_of, value_in}
use Rattle.format.specs.Lookup.{all_read, rows_passing}
use Rattle.format.specs.Demands.{reads_as}
use Rattle.format.specs.Replaying.{number_at, header_of, record_at, listed_at, listed_from, placed, is_recording, same_rows, found_are, agrees, first_differing, replayed}

unfoldable pub zeros : ℕ → List ℕ
zeros zero = []
zeros (suc n) = 0 ∷ zeros n

abbrev pub header : (records start numbers list : ℕ) → List ℕ
header records start numbers list = num_bytes 4 records ++ (num_bytes 4 start ++ (num_bytes 4 numbers ++ num_bytes 4 list))

abbrev pub item : (low high first end place many : ℕ) → List ℕ
item low high first end place many =
    num_bytes 8 low ++ (num_bytes 8 high ++ (num_bytes 4 first ++ (num_bytes 4 end ++ (num_bytes 4 place ++ num_bytes 4 many))))

-- a header cut short, and a whole one; wild offsets of empty regions; a region inside the header, and behind it; one byte too long; overlapping by a byte, and touching; a place past the list, and up to its end
pub recordings : map is_recording (
    zeros 15 ∷ zeros 16 ∷ header 0 99 0 99
    ∷ (header 0 0 1 15 ++ zeros 4) ∷ (header 0 0 1 16 ++ zeros 4) ∷ (header 0 0 1 16 ++ zeros 3) ∷ (header 1 16 0 0 ++ zeros 31)
    ∷ (header 1 16 1 47 ++ zeros 36) ∷ (header 1 16 1 48 ++ zeros 36) ∷ (header 1 20 1 16 ++ zeros 36) ∷ (header 1 19 1 16 ++ zeros 36)
    ∷ (header 1 16 1 48 ++ (item 0 0 0 0 1 1 ++ zeros 4)) ∷ (header 1 16 1 48 ++ (item 0 0 0 0 0 1 ++ zeros 4)) ∷ [])
    ≡ false ∷ true ∷ true ∷ false ∷ true ∷ false ∷ false ∷ false ∷ true ∷ true ∷ false ∷ false ∷ true ∷ []
unfolding zeros num_bytes bytes_num number_at header_of record_at placed is_recording
recordings = refl

abbrev pub over : List ℕ → Outcome Report
over s = replayed (reads_as (10 ∷ 30 ∷ 20 ∷ [])) 3 s

-- the lookup 10 to 25 in 10, 30, 20 finds rows 0 and 2: recorded so; with row 1 for 2; one row short; and behind a lookup that agrees
pub replays : map over (
    (header 1 16 2 48 ++ (item 10 25 0 9 0 2 ++ (num_bytes 4 0 ++ num_bytes 4 2)))
    ∷ (header 1 16 2 48 ++ (item 10 25 0 9 0 2 ++ (num_bytes 4 0 ++ num_bytes 4 1)))
    ∷ (header 1 16 2 48 ++ (item 10 25 0 9 0 1 ++ (num_bytes 4 0 ++ num_bytes 4 2)))
    ∷ (header 2 16 2 80 ++ (item 0 9 0 3 2 0 ++ (item 10 25 1 3 0 1 ++ (num_bytes 4 0 ++ num_bytes 4 2))))
    ∷ zeros 15 ∷ [])
    ≡ value (record { differing = None; run = 1 }) ∷ value (record { differing = Some 0; run = 1 }) ∷ value (record { differing = Some 0; run = 1 })
    ∷ value (record { differing = Some 1; run = 2 }) ∷ refusal 19 [] ∷ []
unfolding zeros num_bytes bytes_num number_at header_of record_at listed_at listed_from placed is_recording same_rows found_are agrees first_differing all_read rows_passing replayed
replays = refl

-- rows 1 and 2 of the Bitpacked column of 10, 30, 20, as a window: its rows are 0 and 1
abbrev pub windowed : Column
windowed = record { minimum = 10; gcd = 10; count = 2; rows = 3; start = 5; size = 1; window = record { first = 1; rows = 2 }; codec = Bitpacked }

abbrev pub through : List ℕ → Outcome Report
through s = replayed (row_at windowed [] (0 ∷ 138 ∷ 138 ∷ 130 ∷ 131 ∷ 24 ∷ [])) 2 s

-- through it the lookup 10 to 25 finds its row 1: recorded so; with the column's row; with an end that the column has and the window has not, for 30, its row 0; 20 to 30, with an end behind all rows, both
-- rows; these by the column's numbers; and a recording cut short
pub window_replays : map through (
    (header 1 16 1 48 ++ (item 10 25 0 9 0 1 ++ num_bytes 4 1))
    ∷ (header 1 16 1 48 ++ (item 10 25 0 9 0 1 ++ num_bytes 4 2))
    ∷ (header 1 16 1 48 ++ (item 30 30 0 3 0 1 ++ num_bytes 4 0))
    ∷ (header 1 16 2 48 ++ (item 20 30 0 9 0 2 ++ (num_bytes 4 0 ++ num_bytes 4 1)))
    ∷ (header 1 16 2 48 ++ (item 20 30 0 9 0 2 ++ (num_bytes 4 1 ++ num_bytes 4 2)))
    ∷ zeros 15 ∷ [])
    ≡ value (record { differing = None; run = 1 }) ∷ value (record { differing = Some 0; run = 1 }) ∷ value (record { differing = None; run = 1 })
    ∷ value (record { differing = None; run = 1 }) ∷ value (record { differing = Some 0; run = 1 }) ∷ refusal 19 [] ∷ []
unfolding zeros num_bytes bytes_num number_at header_of record_at listed_at listed_from placed is_recording same_rows found_are agrees first_differing all_read rows_passing replayed row_in place_in fits column_fits row_fits packed_of value_in unpack rows_bits bits_of num_of width bit_length bits_in
window_replays = refl
