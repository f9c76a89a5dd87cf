-- Cases of checking, one for each side of each rule: opening under a sheet, the counts, the rows, the statistics, and each before the next. The answers were made by a
-- model written apart from these definitions (tools/answers/checks.py).
--     cases, cases_hold
-- Assumes nothing.
use Prim.Native.Nat.{ℕ}
use mathlib.Core.Path.{◌≡◌, refl}
use mathlib.Core.List.{List, [], ◌∷◌, map}
use Rattle.format.specs.Checking.{Reason.unopened, Reason.counts, Reason.unequal, Reason.minimum, Reason.gcd, Reason.maximum, Verdict, Verdict.passed, Verdict.failed, first_unequal, judged_head, judged, checked}
use Rattle.format.specs.Opening.{opened, open_body, open_bitpacked, open_linear, open_blockwise, read_width, read_fields, read_blocks}
use Rattle.format.specs.Packing.{width, bit_length, bits_in, rows_bits, unpack, num_of, bits_of, bytes_num}
use Rattle.format.specs.Reading.{row_in, place_in, column_fits, row_fits, fits, packed_of, value_in}
use Rattle.format.specs.Sheets.{last_fields, ending, strict, under_sheet, opened_under}
use Rattle.format.specs.Stats.{stats_of, reduce, fold_from, gcd as step_of, euclid, read_head}
use Rattle.format.specs.Line.{line_at}
use Rattle.format.specs.Varint.{scan, read_varint, spell, spell_in}

-- checking some bytes under a sheet, with a table of so many blocks, against a list
pub data Asked : Type 0 where
  checking : (sheet : ℕ) (s : List ℕ) (room : ℕ) (vs : List ℕ) → Asked

infix 4 ◌gives◌
pub data Case : Type 0 where
  ◌gives◌ : Asked → Verdict → Case

-- what the definitions answer
abbrev pub answer : Case → Verdict
answer (checking sheet s room vs gives v) = checked (opened_under sheet s room) s vs

-- and what the case says
abbrev pub stored : Case → Verdict
stored (a gives v) = v

abbrev pub cases : List Case
cases =
    -- P9 under both sheets
    (checking 1 (0x00 ∷ 0x8A ∷ 0x8A ∷ 0x82 ∷ 0x83 ∷ 0x18 ∷ []) 1 (10 ∷ 30 ∷ 20 ∷ []) gives passed)
    ∷ (checking 2 (0x00 ∷ 0x8A ∷ 0x8A ∷ 0x82 ∷ 0x83 ∷ 0x18 ∷ []) 1 (10 ∷ 30 ∷ 20 ∷ []) gives passed)
    -- there are two sheets, and 18 comes before everything
    ∷ (checking 0 (0x00 ∷ 0x8A ∷ 0x8A ∷ 0x82 ∷ 0x83 ∷ 0x18 ∷ []) 1 (10 ∷ 30 ∷ 20 ∷ []) gives failed (unopened 18 []))
    ∷ (checking 3 ([]) 1 ([]) gives failed (unopened 18 []))
    -- opening's refusals
    ∷ (checking 1 ([]) 1 (10 ∷ 30 ∷ 20 ∷ []) gives failed (unopened 5 []))
    ∷ (checking 1 (0x03 ∷ 0x8A ∷ 0x8A ∷ 0x82 ∷ 0x83 ∷ 0x18 ∷ []) 1 (10 ∷ 30 ∷ 20 ∷ []) gives failed (unopened 5 []))
    ∷ (checking 1 (0x00 ∷ 0x8A ∷ 0x8A ∷ 0x82 ∷ 0x83 ∷ []) 1 (10 ∷ 30 ∷ 20 ∷ []) gives failed (unopened 10 []))
    -- a longer spelling: sheet 2 refuses it
    ∷ (checking 1 (0x00 ∷ 0x0A ∷ 0x80 ∷ 0x8A ∷ 0x82 ∷ 0x83 ∷ 0x18 ∷ []) 1 (10 ∷ 30 ∷ 20 ∷ []) gives passed)
    ∷ (checking 2 (0x00 ∷ 0x0A ∷ 0x80 ∷ 0x8A ∷ 0x82 ∷ 0x83 ∷ 0x18 ∷ []) 1 (10 ∷ 30 ∷ 20 ∷ []) gives failed (unopened 17 (1 ∷ [])))
    -- the counts, the column's and the list's, before any row
    ∷ (checking 1 (0x00 ∷ 0x8A ∷ 0x8A ∷ 0x82 ∷ 0x83 ∷ 0x18 ∷ []) 1 (11 ∷ 30 ∷ []) gives failed (counts 3 2))
    ∷ (checking 1 (0x00 ∷ 0x8A ∷ 0x8A ∷ 0x82 ∷ 0x83 ∷ 0x18 ∷ []) 1 (10 ∷ 30 ∷ 20 ∷ 20 ∷ []) gives failed (counts 3 4))
    -- the first unequal row
    ∷ (checking 1 (0x00 ∷ 0x8A ∷ 0x8A ∷ 0x82 ∷ 0x83 ∷ 0x18 ∷ []) 1 (11 ∷ 30 ∷ 21 ∷ []) gives failed (unequal 0))
    ∷ (checking 1 (0x00 ∷ 0x8A ∷ 0x8A ∷ 0x82 ∷ 0x83 ∷ 0x18 ∷ []) 1 (10 ∷ 31 ∷ 21 ∷ []) gives failed (unequal 1))
    ∷ (checking 1 (0x00 ∷ 0x8A ∷ 0x8A ∷ 0x82 ∷ 0x83 ∷ 0x18 ∷ []) 1 (10 ∷ 30 ∷ 21 ∷ []) gives failed (unequal 2))
    -- a refused row is unequal, whatever the value
    ∷ (checking 1 (0x00 ∷ 0x8A ∷ 0x8A ∷ 0x82 ∷ 0x83 ∷ 0x0C ∷ []) 1 (10 ∷ 30 ∷ 10 ∷ []) gives failed (unequal 1))
    ∷ (checking 1 (0x00 ∷ 0x8A ∷ 0x8A ∷ 0x82 ∷ 0x83 ∷ 0x0C ∷ []) 1 (10 ∷ 40 ∷ 10 ∷ []) gives failed (unequal 1))
    -- a row before a wrong statistic
    ∷ (checking 1 (0x00 ∷ 0x8A ∷ 0x8A ∷ 0x83 ∷ 0x83 ∷ 0x18 ∷ []) 1 (10 ∷ 30 ∷ 40 ∷ []) gives failed (unequal 2))
    -- each statistic alone
    ∷ (checking 1 (0x00 ∷ 0x80 ∷ 0x8A ∷ 0x83 ∷ 0x83 ∷ 0x2D ∷ []) 1 (10 ∷ 30 ∷ 20 ∷ []) gives failed minimum)
    ∷ (checking 1 (0x00 ∷ 0x8A ∷ 0x85 ∷ 0x84 ∷ 0x83 ∷ 0xA0 ∷ 0x00 ∷ []) 1 (10 ∷ 30 ∷ 20 ∷ []) gives failed gcd)
    ∷ (checking 1 (0x00 ∷ 0x8A ∷ 0x8A ∷ 0x83 ∷ 0x83 ∷ 0x18 ∷ []) 1 (10 ∷ 30 ∷ 20 ∷ []) gives failed maximum)
    -- minimum before gcd before maximum
    ∷ (checking 1 (0x00 ∷ 0x80 ∷ 0x85 ∷ 0x87 ∷ 0x83 ∷ 0x32 ∷ 0x01 ∷ []) 1 (10 ∷ 30 ∷ 20 ∷ []) gives failed minimum)
    ∷ (checking 1 (0x00 ∷ 0x8A ∷ 0x85 ∷ 0x85 ∷ 0x83 ∷ 0xA0 ∷ 0x00 ∷ []) 1 (10 ∷ 30 ∷ 20 ∷ []) gives failed gcd)
    -- another line and another width: Linear, Blockwise
    ∷ (checking 1 (0x01 ∷ 0x8A ∷ 0x8A ∷ 0x82 ∷ 0x83 ∷ 0x80 ∷ 0x8A ∷ 0x08 ∷ 0x00 ∷ 0x14 ∷ 0x0A ∷ []) 1 (10 ∷ 30 ∷ 20 ∷ []) gives passed)
    ∷ (checking 2 (0x01 ∷ 0x8A ∷ 0x8A ∷ 0x82 ∷ 0x83 ∷ 0x80 ∷ 0x8A ∷ 0x08 ∷ 0x00 ∷ 0x14 ∷ 0x0A ∷ []) 1 (10 ∷ 30 ∷ 20 ∷ []) gives passed)
    ∷ (checking 1 (0x02 ∷ 0x8A ∷ 0x8A ∷ 0x82 ∷ 0x83 ∷ 0x18 ∷ 0x80 ∷ 0x80 ∷ 0x02 ∷ 0x03 ∷ 0x00 ∷ 0x00 ∷ 0x00 ∷ []) 1 (10 ∷ 30 ∷ 20 ∷ []) gives passed)
    ∷ (checking 2 (0x02 ∷ 0x8A ∷ 0x8A ∷ 0x82 ∷ 0x83 ∷ 0x00 ∷ 0x02 ∷ 0x01 ∷ 0x80 ∷ 0x80 ∷ 0x08 ∷ 0x03 ∷ 0x00 ∷ 0x00 ∷ 0x00 ∷ []) 1 (10 ∷ 30 ∷ 20 ∷ []) gives passed)
    -- the table's room
    ∷ (checking 1 (0x02 ∷ 0x8A ∷ 0x8A ∷ 0x82 ∷ 0x83 ∷ 0x18 ∷ 0x80 ∷ 0x80 ∷ 0x02 ∷ 0x03 ∷ 0x00 ∷ 0x00 ∷ 0x00 ∷ []) 0 (10 ∷ 30 ∷ 20 ∷ []) gives failed (unopened 11 (1 ∷ [])))
    -- no values: minimum and maximum 0, gcd 1
    ∷ (checking 2 (0x00 ∷ 0x80 ∷ 0x81 ∷ 0x80 ∷ 0x80 ∷ []) 1 ([]) gives passed)
    ∷ (checking 1 (0x00 ∷ 0x81 ∷ 0x81 ∷ 0x80 ∷ 0x80 ∷ []) 1 ([]) gives failed minimum)
    ∷ (checking 1 (0x00 ∷ 0x80 ∷ 0x82 ∷ 0x80 ∷ 0x80 ∷ []) 1 ([]) gives failed gcd)
    ∷ (checking 1 (0x00 ∷ 0x80 ∷ 0x81 ∷ 0x81 ∷ 0x80 ∷ []) 1 ([]) gives failed maximum)
    ∷ []

pub cases_hold : map answer cases ≡ map stored cases
unfolding first_unequal judged_head judged opened open_body open_bitpacked open_linear open_blockwise read_width read_fields read_blocks width bit_length bits_in rows_bits unpack num_of bits_of bytes_num row_in place_in column_fits row_fits fits packed_of value_in last_fields ending strict under_sheet stats_of reduce fold_from step_of euclid read_head line_at scan read_varint spell spell_in
cases_hold = refl
