-- The demands of columns of signed numbers, dates, bools and floats, of the calls' own answers: from the contracts of `serialize_as`, `open`, `row` and `lookup`.
--     ShowsAs, ReturnedAs, typed_return              demand 2: what was written of a list of any kind opens, and reads and looks up as the list
--     typed_accept                                   .. and is not vacuous: fewer than 2^32 values, known codecs of which one applies
--     typed_pass                                     .. under either sheet
--     signed_rows, date_rows, flag_rows, float_rows  .. by the answers that `signed`, `flag` and `float_bits` make of `row`'s
--     looked_by, signed_looked, flag_looked, float_looked
--                                                    `lookup` by the range of some values is a lookup of those, in any column
--     typed_tell                                     demand 3: what two answers read as differs where the row's bits do
-- Assumes nothing.
use Rattle.format.specs.declared.Refusal.{Refusal}
use Rattle.format.specs.Refusals.{answered_by}
use Rattle.std.specs.Prelude.{Option, None, Result, Ok}
use Prim.Native.Nat.{ℕ, zero, suc, ◌+◌, ◌^◌, ◌≤◌, ◌<◌}
use mathlib.Core.Path.{◌≡◌, sym, ◌∙◌, subst}
use mathlib.Core.Bool.{Bool}
use mathlib.Core.List.{List}
use native.Mathlib.Omega.{arith}
use lib.Dec.{ltb}
use lib.IntN.{ℤ}
use lib.ListN.{length, take, get_or}
use lib.Signed.{mag}
use Rattle.format.specs.declared.Block.{Block}
use Rattle.format.specs.declared.Column.{Column}
use Rattle.format.specs.declared.Kind.{Kind}
use Rattle.format.specs.declared.Kind.TheVariants.{I64, Date, Bool as Flag, F64}
use Rattle.format.specs.declared.Range.{Range}
use Rattle.format.specs.declared.Window.{Window}
use Rattle.format.specs.Outcome.{Outcome, Outcome.value}
use Rattle.format.specs.Word.{AllBelow}
use Rattle.format.specs.Bodies.{block_count}
use Rattle.format.specs.Writing.{written}
use Rattle.format.specs.Opening.{Loaded, opened}
use Rattle.format.specs.Sheets.{opened_under}
use Rattle.format.specs.Reading.{row_at}
use Rattle.format.specs.Windows.{windowed, in_window}
use Rattle.format.specs.Lookup.{looked_up, within}
use Rattle.format.specs.Typed.{stored_as, read_as, Reading, reading_of, meant, lies, between, Covers, signed_bits, signed_of, flag_of, float_of, signeds, flags, floats, signed_range, flag_range, float_range}
use Rattle.format.specs.Demands.{filled_by, answered, shown, reads_as, Applies, GivesBackAs, Alike, SameBits, TellAs}
use Rattle.format.proofs.Answers.{answered_injective}
use Rattle.format.proofs.Writes.{written_as}
use Rattle.format.proofs.StoredLists.{stored-length}
use Rattle.format.proofs.TypedLookups.{row_words, covered_lookup, signed_covers, flag_covers, float_covers}
use Rattle.format.proofs.TypedDemands.{returns_as, shortest_as, passes_as, tell_typed}
use Rattle.format.proofs.Stores.{front_of}
use Rattle.format.specs.Calls.{OpenedAs, StoredAs}
use Rattle.table.proofs.Calls.{TableOpens, reads, written_of, Accepted, calls_accept, by_sheet}

-- ---- demand 2

-- what the calls give back of a list of values of a kind through a column's window: as many rows, each row's value, and by any range of stored numbers that covers some values what a lookup of those in the list itself finds
pub record ShowsAs (kind : Kind) (xs s : List ℕ) (after : List Block) (c : Column) : Type 0 where
  pub count : c.window.rows ≡ length xs
  pub rows : (r : ℕ) → r < length xs → (b : Result ℕ Refusal) → answered_by b ≡ row_at c after s r → read_as (reading_of kind).value (answered_by b) ≡ value (meant kind (get_or xs r 0))
  pub found : (low high : (reading_of kind).Value) (range : Range) → Covers (reading_of kind) low high range → (first end : ℕ) (before list : List ℕ) (f : Result ℕ Refusal)
      → StoredAs (looked_up (row_at c after s) c.window.rows (within range.low range.high) first end (length before)) f before list
      → StoredAs (looked_up (reads_as xs) (length xs) (λ x. lies (reading_of kind) low high (meant kind x)) first end (length before)) f before list

-- from bytes that were opened: a column that is spelled as short as can be and gives back the list, and through any window in it that part of the list
pub record ReturnedAs (kind : Kind) (xs s : List ℕ) (after : List Block) (a : Result (Column × Option ℕ) Refusal) : Type 0 where
  pub column : Column
  pub opens_to : a ≡ Ok (column, None)
  pub all : ShowsAs kind xs s after column
  pub windows : (w : Window) → w.first + w.rows ≤ column.rows → ShowsAs kind (shown w xs) s after (windowed column w)

-- what an opened column gives back
shows_as : (kind : Kind) (xs bytes : List ℕ) (table after : List Block) (o : Loaded) → after ≡ filled_by o table → GivesBackAs kind xs bytes table o → ShowsAs kind xs bytes after o.column
shows_as kind xs bytes table after o left back =
    record {
      count = back.count;
      rows = λ (r : ℕ) (h : r < length xs) (b : Result ℕ Refusal) (f : answered_by b ≡ row_at o.column after bytes r).
          rw (f, left) (back.rows r h);
      found = λ (low high : (reading_of kind).Value) (range : Range) (covers : Covers (reading_of kind) low high range) (first end : ℕ) (before list : List ℕ) (f : Result ℕ Refusal).
          subst (λ (x : Outcome (List ℕ)). StoredAs x f before list)
          (sym (covered_lookup (reading_of kind) low high range covers (row_at o.column after bytes) (row_words o.column after bytes) o.column.window.rows first end (length before))
          ∙ rw left (back.found low high first end (length before)));
    }

-- a written column that is opened
returned_as : (kind : Kind) (xs cs bytes : List ℕ) (table after : List Block) (room : ℕ) → AllBelow (2 ^ 64) xs → written (stored_as kind xs) cs room ≡ value bytes → block_count (length xs) ≤ length table
    → (a : Result (Column × Option ℕ) Refusal) → OpenedAs (opened bytes (length table)) a table after → ReturnedAs kind xs bytes after a
returned_as kind xs cs bytes table after room each e enough a opened_as =
    let g = returns_as kind xs cs bytes table room each e enough in
    let o : Loaded = g.0 in
    let left : after ≡ filled_by o table = opened_as.table ∙ rw g.1 in
    record {
      column = o.column;
      opens_to = answered_injective a (Ok (o.column, None)) (opened_as.answer ∙ rw (g.1, shortest_as kind xs cs bytes table room each e enough o g.1));
      all = shows_as kind xs bytes table after o left g.2;
      windows = λ w inside. shows_as kind (shown w xs) bytes table after (in_window o w) left (g.3 w inside);
    }

-- demand 2, of the calls: what `serialize_as` wrote, opened with any table that has room, gives back the list
pub typed_return : (kind : Kind) (xs cs out written_out : List ℕ) (n : ℕ) → AllBelow (2 ^ 64) xs → StoredAs (written (stored_as kind xs) cs (length out)) (Ok n) out written_out
    → (table after : List Block) → block_count (length xs) ≤ length table
    → (a : Result (Column × Option ℕ) Refusal) → OpenedAs (opened (take n written_out) (length table)) a table after → ReturnedAs kind xs (take n written_out) after a
typed_return kind xs cs out written_out n each wrote table after enough a opened_as =
    let vs = stored_as kind xs in
    let w = written_of (written vs cs (length out)) out written_out n wrote in
    let front : take n written_out ≡ w.0 = front_of out written_out w.0 n w.2 w.3 (written_as vs cs w.0 (length out) w.1).fits in
    subst (λ (s : List ℕ). OpenedAs (opened s (length table)) a table after → ReturnedAs kind xs s after a) (sym front)
    (returned_as kind xs cs w.0 table after (length out) each w.1 enough a) opened_as

-- a codec applies to the stored numbers of some values where it applies to them
applies_as : (kind : Kind) (xs : List ℕ) (codec : ℕ) → Applies codec xs → Applies codec (stored_as kind xs)
applies_as kind xs zero h = tt
applies_as kind xs (suc zero) h = omega (arith, h, stored-length kind xs)
applies_as kind xs (suc (suc codec)) h = tt

-- demand 2 is not vacuous: `serialize_as` writes such values wherever there is room for their column
pub typed_accept : (kind : Kind) (xs cs : List ℕ) (j : ℕ) → length xs < 2 ^ 32 → AllBelow 3 cs → j < length cs → Applies (get_or cs j 0) xs
    → (bytes : List ℕ) × Accepted (stored_as kind xs) cs bytes
typed_accept kind xs cs j few known h applies =
    calls_accept (stored_as kind xs) cs j (omega (arith, few, stored-length kind xs)) known h (applies_as kind xs (get_or cs j 0) applies)

-- the same under either sheet
pub typed_pass : (kind : Kind) (xs cs out written_out : List ℕ) (n : ℕ) → AllBelow (2 ^ 64) xs → StoredAs (written (stored_as kind xs) cs (length out)) (Ok n) out written_out
    → (table after : List Block) → block_count (length xs) ≤ length table → (sheet : ℕ) → 0 < sheet → sheet ≤ 2
    → (a : Result (Column × Option ℕ) Refusal) → OpenedAs (opened_under sheet (take n written_out) (length table)) a table after → ReturnedAs kind xs (take n written_out) after a
typed_pass kind xs cs out written_out n each wrote table after enough sheet more known a opened_as =
    let vs = stored_as kind xs in
    let w = written_of (written vs cs (length out)) out written_out n wrote in
    let front : take n written_out ≡ w.0 = front_of out written_out w.0 n w.2 w.3 (written_as vs cs w.0 (length out) w.1).fits in
    let g = returns_as kind xs cs w.0 table (length out) each w.1 enough in
    let both = passes_as kind xs cs w.0 table (length out) each w.1 enough g.0 g.1 in
    let same : opened_under sheet (take n written_out) (length table) ≡ opened (take n written_out) (length table) =
    rw front (by_sheet sheet w.0 (length table) g.0 g.1 both more known) in
    typed_return kind xs cs out written_out n each wrote table after enough a (subst (λ (x : Outcome Loaded). OpenedAs x a table after) same opened_as)

-- ---- .. by the typed answers

module _ (xs s : List ℕ) (after : List Block) (c : Column) where
  pub signed_rows : ShowsAs I64 xs s after c → (r : ℕ) → r < length xs → (b : Result ℕ Refusal) → answered_by b ≡ row_at c after s r
      → (t : Result ℤ Refusal) → answered_by t ≡ read_as signed_of (answered_by b) → t ≡ Ok (signed_bits (get_or xs r 0))
  signed_rows g r h b e t f = answered_injective t (Ok (signed_bits (get_or xs r 0))) (f ∙ g.rows r h b e)

  pub date_rows : ShowsAs Date xs s after c → (r : ℕ) → r < length xs → (b : Result ℕ Refusal) → answered_by b ≡ row_at c after s r
      → (t : Result ℤ Refusal) → answered_by t ≡ read_as signed_of (answered_by b) → t ≡ Ok (signed_bits (get_or xs r 0))
  date_rows g r h b e t f = answered_injective t (Ok (signed_bits (get_or xs r 0))) (f ∙ g.rows r h b e)

  pub flag_rows : ShowsAs Flag xs s after c → (r : ℕ) → r < length xs → (b : Result ℕ Refusal) → answered_by b ≡ row_at c after s r
      → (t : Result Bool Refusal) → answered_by t ≡ read_as flag_of (answered_by b) → t ≡ Ok (ltb 0 (get_or xs r 0))
  flag_rows g r h b e t f = answered_injective t (Ok (ltb 0 (get_or xs r 0))) (f ∙ g.rows r h b e)

  pub float_rows : ShowsAs F64 xs s after c → (r : ℕ) → r < length xs → (b : Result ℕ Refusal) → answered_by b ≡ row_at c after s r
      → (t : Result ℕ Refusal) → answered_by t ≡ read_as float_of (answered_by b) → t ≡ Ok (get_or xs r 0)
  float_rows g r h b e t f = answered_injective t (Ok (get_or xs r 0)) (f ∙ g.rows r h b e)

-- ---- looking up by values, in any column

-- what `lookup` answers by a range of stored numbers that covers some values
pub looked_by : (R : Reading) (low high : R.Value) (range : Range) → Covers R low high range → (c : Column) (table : List Block) (bytes : List ℕ) (first end : ℕ) (found list : List ℕ) (f : Result ℕ Refusal)
    → StoredAs (looked_up (row_at c table bytes) c.window.rows (within range.low range.high) first end (length found)) f found list
    → StoredAs (looked_up (row_at c table bytes) c.window.rows (between R low high) first end (length found)) f found list
looked_by R low high range covers c table bytes first end found list f =
    subst (λ (x : Outcome (List ℕ)). StoredAs x f found list)
    (sym (covered_lookup R low high range covers (row_at c table bytes) (row_words c table bytes) c.window.rows first end (length found)))

module _ (c : Column) (table : List Block) (bytes : List ℕ) (first end : ℕ) (found list : List ℕ) (f : Result ℕ Refusal) where
  -- looking up a range
  abbrev FoundIn : Range → Type 0
  FoundIn range = StoredAs (looked_up (row_at c table bytes) c.window.rows (within range.low range.high) first end (length found)) f found list

  -- looking up the values from low to high
  abbrev FoundBy : (R : Reading) → (low high : R.Value) → Type 0
  FoundBy R low high = StoredAs (looked_up (row_at c table bytes) c.window.rows (between R low high) first end (length found)) f found list

  -- of signed numbers and dates, in the range of an i64
  pub signed_looked : (low high : ℤ) → mag low < 2 ^ 63 → mag high < 2 ^ 63 → FoundIn (signed_range low high) → FoundBy signeds low high
  signed_looked low high a b = looked_by signeds low high (signed_range low high) (signed_covers low high a b) c table bytes first end found list f

  pub flag_looked : (low high : Bool) → FoundIn (flag_range low high) → FoundBy flags low high
  flag_looked low high = looked_by flags low high (flag_range low high) (flag_covers low high) c table bytes first end found list f

  pub float_looked : (low high : ℕ) → FoundIn (float_range low high) → FoundBy floats low high
  float_looked low high = looked_by floats low high (float_range low high) (float_covers low high) c table bytes first end found list f

-- ---- demand 3

-- of two byte strings that differ only inside the packed area, each opened by a call, a row of a window whose bits differ
pub typed_tell : (s t : List ℕ) (table other after other_After : List Block) (c d : Column) (l m : Option ℕ) (o p : Loaded) → TableOpens s table after c l o → TableOpens t other other_After d m p → Alike s t o
    → (w : Window) → w.first + w.rows ≤ c.rows → (r : ℕ) → r < w.rows → (SameBits o s t (w.first + r) → ⊥)
    → (a b : Result ℕ Refusal) → answered_by a ≡ row_at (windowed c w) after s r → answered_by b ≡ row_at (windowed d w) other_After t r
    → TellAs r (answered_by a) (answered_by b)
typed_tell s t table other after other_After c d l m o p e f alike w inside r h bits a b x y =
    let x' = answered (in_window o w) table s r in
    let y' = answered (in_window p w) other t r in
    let told : TellAs r x' y' = tell_typed s t table other o p e.found f.found alike w (rw e.column inside) r h bits in
    subst (λ (u : Outcome ℕ). TellAs r u (answered_by b)) (sym (x ∙ reads e w r))
    (subst (λ (u : Outcome ℕ). TellAs r x' u) (sym (y ∙ reads f w r)) told)
