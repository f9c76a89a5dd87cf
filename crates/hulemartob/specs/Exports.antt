-- What each export promises, by its name: of the numbers and lists that it is handed, the result, the refusal's two numbers and every lent entry afterwards.
-- Assumes nothing.
use Rattle.std.specs.Prelude.{ℕ, ◌≡◌, Bool, List, ℤ, length}
use Rattle.format.specs.declared.Block.{Block}
use Rattle.format.specs.Opening.{opened}
use Rattle.format.specs.Sheets.{opened_under}
use Rattle.format.specs.Stats.{stated}
use Rattle.format.specs.Stops.{stop_of}
use Rattle.format.specs.Typed.{signed_of, flag_of, float_of, signed_range, flag_range, float_range}
use Rattle.format.specs.Writing.{written}
use Rattle.c_numbers.specs.Explaining.{Tells}
use Rattle.c_numbers.specs.Numbers.{filled, Answers, Narrows, States}
use Rattle.c_tableless.specs.Calls.{narrowed_from, sizes_from, sizes_told, stated_from, written_from}
use Rattle.c_answers.specs.Replaying.{Reports}
use Rattle.c_parts.specs.Listed.{listed_from, Walks}
use Rattle.byte_stop.specs.Numbers.{stop_numbers}
use Rattle.hulemartob.specs.Calls.{range_numbers, words_from, row_from, found_from, run_from, replayed_from, part_from, rows_from, Lists, Loads, Judges}
use Rattle.hulemartob.specs.Differing.{difference_from}

-- ---- writing

-- `hulemartob_column_stats`
abbrev pub ColumnStatsPromise : (values refusal stats stats' : List ℕ) → Type 0
ColumnStatsPromise values refusal stats stats' = States (stated values) refusal stats stats'

-- `hulemartob_column_stats_as`
abbrev pub ColumnStatsAsPromise : (kind : ℕ) (values refusal stats stats' : List ℕ) → Type 0
ColumnStatsAsPromise kind values refusal stats stats' = States (stated_from kind values) refusal stats stats'

-- `hulemartob_sizes`
abbrev pub SizesPromise : (kind : ℕ) (values refusal sizes sizes' : List ℕ) → Type 0
SizesPromise kind values refusal sizes sizes' = Tells (sizes_told (sizes_from kind values)) refusal sizes sizes'

-- `hulemartob_serialize`
abbrev pub SerializePromise : (values codecs : List ℕ) (r : ℕ) (refusal out out' : List ℕ) → Type 0
SerializePromise values codecs r refusal out out' = Lists (written values codecs (length out)) r refusal out out'

-- `hulemartob_serialize_as`
abbrev pub SerializeAsPromise : (kind : ℕ) (values codecs : List ℕ) (r : ℕ) (refusal out out' : List ℕ) → Type 0
SerializeAsPromise kind values codecs r refusal out out' = Lists (written_from kind values codecs (length out)) r refusal out out'

-- ---- opening, and windows

-- `hulemartob_open`
abbrev pub OpenPromise : (bytes : List ℕ) (r : ℕ) (refusal column column' : List ℕ) (table table' : List Block) → Type 0
OpenPromise bytes r refusal column column' table table' = Loads (opened bytes (length table)) r refusal column column' table table'

-- `hulemartob_open_under`
abbrev pub OpenUnderPromise : (sheet : ℕ) (bytes : List ℕ) (r : ℕ) (refusal column column' : List ℕ) (table table' : List Block) → Type 0
OpenUnderPromise sheet bytes r refusal column column' table table' = Loads (opened_under sheet bytes (length table)) r refusal column column' table table'

-- `hulemartob_narrow`
abbrev pub NarrowPromise : (first count : ℕ) (refusal column column' : List ℕ) → Type 0
NarrowPromise first count refusal column column' = Narrows (narrowed_from column first count) refusal column column'

-- ---- reading

-- `hulemartob_row`
abbrev pub RowPromise : (column : List ℕ) (table : List Block) (bytes : List ℕ) (row r : ℕ) (refusal : List ℕ) → Type 0
RowPromise column table bytes row r refusal = Answers (row_from column table bytes row) r refusal

-- `hulemartob_lookup`
abbrev pub LookupPromise : (column : List ℕ) (table : List Block) (bytes : List ℕ) (low high first end r : ℕ) (refusal found found' : List ℕ) → Type 0
LookupPromise column table bytes low high first end r refusal found found' = Lists (found_from column table bytes low high first end (length found)) r refusal found found'

-- `hulemartob_run`
abbrev pub RunPromise : (column : List ℕ) (table : List Block) (bytes : List ℕ) (first r : ℕ) (refusal out out' : List ℕ) → Type 0
RunPromise column table bytes first r refusal out out' = Lists (run_from column table bytes first (length out)) r refusal out out'

-- `hulemartob_replay`
abbrev pub ReplayPromise : (column : List ℕ) (table : List Block) (bytes recording refusal report report' : List ℕ) → Type 0
ReplayPromise column table bytes recording refusal report report' = Reports (replayed_from column table bytes recording) refusal report report'

-- `hulemartob_check`
abbrev pub CheckPromise : (kind sheet : ℕ) (bytes values refusal verdict verdict' : List ℕ) (table table' : List Block) → Type 0
CheckPromise kind sheet bytes values refusal verdict verdict' table table' = Judges kind sheet bytes values (length table) refusal verdict verdict' table table'

-- `hulemartob_difference`
abbrev pub DifferencePromise : (left : List ℕ) (ltable : List Block) (lbytes right : List ℕ) (rtable : List Block) (rbytes : List ℕ) (from : ℕ) (refusal difference difference' : List ℕ) → Type 0
DifferencePromise left ltable lbytes right rtable rbytes from refusal difference difference' =
    Tells (difference_from left ltable lbytes right rtable rbytes from) refusal difference difference'

-- ---- bytes

-- `hulemartob_part_at`
abbrev pub PartAtPromise : (column bytes : List ℕ) (offset : ℕ) (refusal part part' : List ℕ) → Type 0
PartAtPromise column bytes offset refusal part part' = Tells (part_from column bytes offset) refusal part part'

-- `hulemartob_parts`
abbrev pub PartsPromise : (column bytes : List ℕ) (r : ℕ) (refusal cursor cursor' list list' : List ℕ) → Type 0
PartsPromise column bytes r refusal cursor cursor' list list' = Walks (listed_from column bytes cursor (length list)) r refusal cursor cursor' list list'

-- `hulemartob_stop`
abbrev pub StopPromise : (bytes stop' : List ℕ) → Type 0
StopPromise bytes stop' = stop' ≡ stop_numbers (stop_of bytes)

-- `hulemartob_rows_at`
abbrev pub RowsAtPromise : (column : List ℕ) (table : List Block) (bytes : List ℕ) (offset : ℕ) (refusal rows rows' : List ℕ) → Type 0
RowsAtPromise column table bytes offset refusal rows rows' = Tells (rows_from column table bytes offset) refusal rows rows'

-- ---- kinds

-- `hulemartob_values_as`
abbrev pub ValuesAsPromise : (kind : ℕ) (list list' : List ℕ) → Type 0
ValuesAsPromise kind list list' = list' ≡ filled (words_from kind list) list

-- `hulemartob_i64_of`
abbrev pub I64OfPromise : (stored : ℕ) (r : ℤ) → Type 0
I64OfPromise stored r = r ≡ signed_of stored

-- `hulemartob_bool_of`
abbrev pub BoolOfPromise : (stored : ℕ) (r : Bool) → Type 0
BoolOfPromise stored r = r ≡ flag_of stored

-- `hulemartob_f64_bits_of`
abbrev pub F64BitsOfPromise : (stored r : ℕ) → Type 0
F64BitsOfPromise stored r = r ≡ float_of stored

-- `hulemartob_i64_range`
abbrev pub I64RangePromise : (low high : ℤ) (range' : List ℕ) → Type 0
I64RangePromise low high range' = range' ≡ range_numbers (signed_range low high)

-- `hulemartob_bool_range`
abbrev pub BoolRangePromise : (low high : Bool) (range' : List ℕ) → Type 0
BoolRangePromise low high range' = range' ≡ range_numbers (flag_range low high)

-- `hulemartob_f64_range`
abbrev pub F64RangePromise : (low high : ℕ) (range' : List ℕ) → Type 0
F64RangePromise low high range' = range' ≡ range_numbers (float_range low high)
