-- What each export promises determines its results: two that its relation (specs/Exports) allows coincide, the refusal's numbers and every lent entry included. First the laws over any outcome, then a statement of each export.
--     column_stats_determined, column_stats_as_determined, sizes_determined, serialize_determined, serialize_as_determined
--     open_determined, open_under_determined, narrow_determined
--     row_determined, lookup_determined, run_determined, replay_determined, check_determined, difference_determined
--     part_at_determined, parts_determined, stop_determined, rows_at_determined
--     values_as_determined, i64_of_determined, bool_of_determined, f64_bits_of_determined, i64_range_determined, bool_range_determined, f64_range_determined
-- Assumes nothing.
use Rattle.format.specs.declared.Report.{Report}
use Rattle.std.specs.Prelude.{Option}
use Prim.Native.Nat.{ℕ}
use mathlib.Core.Path.{◌≡◌, sym, ◌∙◌}
use mathlib.Core.Bool.{Bool}
use mathlib.Core.List.{List}
use lib.IntN.{ℤ}
use lib.ListN.{length}
use Rattle.format.specs.declared.Block.{Block}
use Rattle.format.specs.declared.Column.{Column}
use Rattle.format.specs.declared.ColumnStats.{ColumnStats}
use Rattle.format.specs.Opening.{Loaded, opened, column_in}
use Rattle.format.specs.Outcome.{Outcome, how_many}
use Rattle.format.specs.Sheets.{opened_under}
use Rattle.format.specs.Stats.{stated}
use Rattle.format.specs.Writing.{written}
use Rattle.c_numbers.specs.Explaining.{Tells}
use Rattle.c_numbers.specs.Numbers.{Answers, Describes, Narrows, States}
use Rattle.c_tableless.specs.Calls.{narrowed_from, sizes_from, sizes_told, stated_from, written_from}
use Rattle.c_answers.specs.Replaying.{Reports}
use Rattle.c_parts.specs.Listed.{listed_from}
use Rattle.c_parts.proofs.Determined.{walks_determined}
use Rattle.hulemartob.specs.Calls.{row_from, found_from, run_from, replayed_from, part_from, rows_from, checked_from, Lists, Loads}
use Rattle.hulemartob.specs.Differing.{difference_from}
use Rattle.hulemartob.specs.Exports.{ColumnStatsPromise, ColumnStatsAsPromise, SizesPromise, SerializePromise, SerializeAsPromise, OpenPromise, OpenUnderPromise, NarrowPromise, RowPromise, LookupPromise, RunPromise, ReplayPromise, CheckPromise, DifferencePromise}
use Rattle.hulemartob.specs.Exports.{PartAtPromise, PartsPromise, StopPromise, RowsAtPromise, ValuesAsPromise, I64OfPromise, BoolOfPromise, F64BitsOfPromise, I64RangePromise, BoolRangePromise, F64RangePromise}

-- ---- over any outcome

-- a result and a refusal's two numbers
answers_determined : (o : Outcome ℕ) (r r' : ℕ) (refusal refusal' : List ℕ) → Answers o r refusal → Answers o r' refusal' → (r ≡ r') × (refusal ≡ refusal')
answers_determined o r r' refusal refusal' p q = (p.result_is ∙ sym q.result_is, p.refusal_is ∙ sym q.refusal_is)

-- statistics
states_determined : (o : Outcome ColumnStats) (stats refusal refusal' after after' : List ℕ) → States o refusal stats after → States o refusal' stats after' → (refusal ≡ refusal') × (after ≡ after')
states_determined o stats refusal refusal' after after' p q = (p.refusal_is ∙ sym q.refusal_is, p.stats_are ∙ sym q.stats_are)

-- a list into lent memory
lists_determined : (o : Outcome (List ℕ)) (before : List ℕ) (r r' : ℕ) (refusal refusal' after after' : List ℕ) → Lists o r refusal before after → Lists o r' refusal' before after'
    → (r ≡ r') × (refusal ≡ refusal') × (after ≡ after')
lists_determined o before r r' refusal refusal' after after' p q =
    let a = answers_determined (how_many o) r r' refusal refusal' p.answers q.answers in
    (a.0, a.1, p.list ∙ sym q.list)

-- an opened column
describes_determined : (o : Outcome (Column × (Option ℕ))) (column : List ℕ) (r r' : ℕ) (refusal refusal' after after' : List ℕ) → Describes o r refusal column after → Describes o r' refusal' column after'
    → (r ≡ r') × (refusal ≡ refusal') × (after ≡ after')
describes_determined o column r r' refusal refusal' after after' p q =
    (p.result_is ∙ sym q.result_is, p.refusal_is ∙ sym q.refusal_is, p.column_is ∙ sym q.column_is)

-- .. and the block table
loads_determined : (o : Outcome Loaded) (column : List ℕ) (table : List Block) (r r' : ℕ) (refusal refusal' after after' : List ℕ) (table_after table_after' : List Block)
    → Loads o r refusal column after table table_after → Loads o r' refusal' column after' table table_after'
    → (r ≡ r') × (refusal ≡ refusal') × (after ≡ after') × (table_after ≡ table_after')
loads_determined o column table r r' refusal refusal' after after' table_after table_after' p q =
    let d = describes_determined (column_in o) column r r' refusal refusal' after after' p.describes q.describes in
    (d.0, d.1, d.2, p.table_is ∙ sym q.table_is)

-- a narrowed column
narrows_determined : (o : Outcome Column) (column refusal refusal' after after' : List ℕ) → Narrows o refusal column after → Narrows o refusal' column after' → (refusal ≡ refusal') × (after ≡ after')
narrows_determined o column refusal refusal' after after' p q = (p.refusal_is ∙ sym q.refusal_is, p.column_is ∙ sym q.column_is)

-- numbers that are told
tells_determined : (o : Outcome (List ℕ)) (old refusal refusal' new new' : List ℕ) → Tells o refusal old new → Tells o refusal' old new' → (refusal ≡ refusal') × (new ≡ new')
tells_determined o old refusal refusal' new new' p q = (p.refusal_is ∙ sym q.refusal_is, p.numbers ∙ sym q.numbers)

-- a replay's report
reports_determined : (o : Outcome Report) (report refusal refusal' after after' : List ℕ) → Reports o refusal report after → Reports o refusal' report after' → (refusal ≡ refusal') × (after ≡ after')
reports_determined o report refusal refusal' after after' p q = (p.refusal_is ∙ sym q.refusal_is, p.report_is ∙ sym q.report_is)

-- ---- of each export

pub column_stats_determined : (values stats refusal refusal' after after' : List ℕ) → ColumnStatsPromise values refusal stats after → ColumnStatsPromise values refusal' stats after' → (refusal ≡ refusal') × (after ≡ after')
column_stats_determined values = states_determined (stated values)

pub column_stats_as_determined : (kind : ℕ) (values stats refusal refusal' after after' : List ℕ)
    → ColumnStatsAsPromise kind values refusal stats after → ColumnStatsAsPromise kind values refusal' stats after' → (refusal ≡ refusal') × (after ≡ after')
column_stats_as_determined kind values = states_determined (stated_from kind values)

pub sizes_determined : (kind : ℕ) (values sizes refusal refusal' after after' : List ℕ)
    → SizesPromise kind values refusal sizes after → SizesPromise kind values refusal' sizes after' → (refusal ≡ refusal') × (after ≡ after')
sizes_determined kind values = tells_determined (sizes_told (sizes_from kind values))

pub serialize_determined : (values codecs out : List ℕ) (r r' : ℕ) (refusal refusal' after after' : List ℕ)
    → SerializePromise values codecs r refusal out after → SerializePromise values codecs r' refusal' out after' → (r ≡ r') × (refusal ≡ refusal') × (after ≡ after')
serialize_determined values codecs out = lists_determined (written values codecs (length out)) out

pub serialize_as_determined : (kind : ℕ) (values codecs out : List ℕ) (r r' : ℕ) (refusal refusal' after after' : List ℕ)
    → SerializeAsPromise kind values codecs r refusal out after → SerializeAsPromise kind values codecs r' refusal' out after' → (r ≡ r') × (refusal ≡ refusal') × (after ≡ after')
serialize_as_determined kind values codecs out = lists_determined (written_from kind values codecs (length out)) out

pub open_determined : (bytes column : List ℕ) (table : List Block) (r r' : ℕ) (refusal refusal' after after' : List ℕ) (table_after table_after' : List Block)
    → OpenPromise bytes r refusal column after table table_after → OpenPromise bytes r' refusal' column after' table table_after'
    → (r ≡ r') × (refusal ≡ refusal') × (after ≡ after') × (table_after ≡ table_after')
open_determined bytes column table = loads_determined (opened bytes (length table)) column table

pub open_under_determined : (sheet : ℕ) (bytes column : List ℕ) (table : List Block) (r r' : ℕ) (refusal refusal' after after' : List ℕ) (table_after table_after' : List Block)
    → OpenUnderPromise sheet bytes r refusal column after table table_after → OpenUnderPromise sheet bytes r' refusal' column after' table table_after'
    → (r ≡ r') × (refusal ≡ refusal') × (after ≡ after') × (table_after ≡ table_after')
open_under_determined sheet bytes column table = loads_determined (opened_under sheet bytes (length table)) column table

pub narrow_determined : (first count : ℕ) (column refusal refusal' after after' : List ℕ)
    → NarrowPromise first count refusal column after → NarrowPromise first count refusal' column after' → (refusal ≡ refusal') × (after ≡ after')
narrow_determined first count column = narrows_determined (narrowed_from column first count) column

pub row_determined : (column : List ℕ) (table : List Block) (bytes : List ℕ) (row r r' : ℕ) (refusal refusal' : List ℕ)
    → RowPromise column table bytes row r refusal → RowPromise column table bytes row r' refusal' → (r ≡ r') × (refusal ≡ refusal')
row_determined column table bytes row = answers_determined (row_from column table bytes row)

pub lookup_determined : (column : List ℕ) (table : List Block) (bytes : List ℕ) (low high first end : ℕ) (found : List ℕ) (r r' : ℕ) (refusal refusal' after after' : List ℕ)
    → LookupPromise column table bytes low high first end r refusal found after → LookupPromise column table bytes low high first end r' refusal' found after'
    → (r ≡ r') × (refusal ≡ refusal') × (after ≡ after')
lookup_determined column table bytes low high first end found = lists_determined (found_from column table bytes low high first end (length found)) found

pub run_determined : (column : List ℕ) (table : List Block) (bytes : List ℕ) (first : ℕ) (out : List ℕ) (r r' : ℕ) (refusal refusal' after after' : List ℕ)
    → RunPromise column table bytes first r refusal out after → RunPromise column table bytes first r' refusal' out after' → (r ≡ r') × (refusal ≡ refusal') × (after ≡ after')
run_determined column table bytes first out = lists_determined (run_from column table bytes first (length out)) out

pub replay_determined : (column : List ℕ) (table : List Block) (bytes recording report refusal refusal' after after' : List ℕ)
    → ReplayPromise column table bytes recording refusal report after → ReplayPromise column table bytes recording refusal' report after' → (refusal ≡ refusal') × (after ≡ after')
replay_determined column table bytes recording = reports_determined (replayed_from column table bytes recording)

pub check_determined : (kind sheet : ℕ) (bytes values verdict : List ℕ) (table : List Block) (refusal refusal' after after' : List ℕ) (table_after table_after' : List Block)
    → CheckPromise kind sheet bytes values refusal verdict after table table_after → CheckPromise kind sheet bytes values refusal' verdict after' table table_after'
    → (refusal ≡ refusal') × (after ≡ after') × (table_after ≡ table_after')
check_determined kind sheet bytes values verdict table refusal refusal' after after' table_after table_after' p q =
    let t = tells_determined (checked_from kind sheet bytes values (length table)) verdict refusal refusal' after after' p.tells q.tells in
    (t.0, t.1, p.table_is ∙ sym q.table_is)

pub difference_determined : (left : List ℕ) (ltable : List Block) (lbytes right : List ℕ) (rtable : List Block) (rbytes : List ℕ) (from : ℕ) (difference refusal refusal' after after' : List ℕ)
    → DifferencePromise left ltable lbytes right rtable rbytes from refusal difference after → DifferencePromise left ltable lbytes right rtable rbytes from refusal' difference after' → (refusal ≡ refusal') × (after ≡ after')
difference_determined left ltable lbytes right rtable rbytes from = tells_determined (difference_from left ltable lbytes right rtable rbytes from)

pub part_at_determined : (column bytes : List ℕ) (offset : ℕ) (part refusal refusal' after after' : List ℕ)
    → PartAtPromise column bytes offset refusal part after → PartAtPromise column bytes offset refusal' part after' → (refusal ≡ refusal') × (after ≡ after')
part_at_determined column bytes offset = tells_determined (part_from column bytes offset)

pub parts_determined : (column bytes cursor list : List ℕ) (r r' : ℕ) (refusal refusal' place place' after after' : List ℕ)
    → PartsPromise column bytes r refusal cursor place list after → PartsPromise column bytes r' refusal' cursor place' list after'
    → (r ≡ r') × (refusal ≡ refusal') × (place ≡ place') × (after ≡ after')
parts_determined column bytes cursor list = walks_determined (listed_from column bytes cursor (length list)) cursor list

pub stop_determined : (bytes after after' : List ℕ) → StopPromise bytes after → StopPromise bytes after' → after ≡ after'
stop_determined bytes after after' p q = p ∙ sym q

pub rows_at_determined : (column : List ℕ) (table : List Block) (bytes : List ℕ) (offset : ℕ) (rows refusal refusal' after after' : List ℕ)
    → RowsAtPromise column table bytes offset refusal rows after → RowsAtPromise column table bytes offset refusal' rows after' → (refusal ≡ refusal') × (after ≡ after')
rows_at_determined column table bytes offset = tells_determined (rows_from column table bytes offset)

pub values_as_determined : (kind : ℕ) (list after after' : List ℕ) → ValuesAsPromise kind list after → ValuesAsPromise kind list after' → after ≡ after'
values_as_determined kind list after after' p q = p ∙ sym q

pub i64_of_determined : (stored : ℕ) (r r' : ℤ) → I64OfPromise stored r → I64OfPromise stored r' → r ≡ r'
i64_of_determined stored r r' p q = p ∙ sym q

pub bool_of_determined : (stored : ℕ) (r r' : Bool) → BoolOfPromise stored r → BoolOfPromise stored r' → r ≡ r'
bool_of_determined stored r r' p q = p ∙ sym q

pub f64_bits_of_determined : (stored r r' : ℕ) → F64BitsOfPromise stored r → F64BitsOfPromise stored r' → r ≡ r'
f64_bits_of_determined stored r r' p q = p ∙ sym q

pub i64_range_determined : (low high : ℤ) (after after' : List ℕ) → I64RangePromise low high after → I64RangePromise low high after' → after ≡ after'
i64_range_determined low high after after' p q = p ∙ sym q

pub bool_range_determined : (low high : Bool) (after after' : List ℕ) → BoolRangePromise low high after → BoolRangePromise low high after' → after ≡ after'
bool_range_determined low high after after' p q = p ∙ sym q

pub f64_range_determined : (low high : ℕ) (after after' : List ℕ) → F64RangePromise low high after → F64RangePromise low high after' → after ≡ after'
f64_range_determined low high after after' p q = p ∙ sym q
