-- The demands, of the calls' own answers: from the contracts of `serialize`, `open`, `row` and `lookup`, and the theorems of `format`.
--     TableOpens, opens                       what an answer of `open` that is a column comes from
--     reads, written_of                  what a call left is what was found
--     own_rows, own_fits                 a column that was opened and narrowed answers its own rows with a value or 14: never 12, never 13; it fits together with its own bytes and table
--     Shows, Returned, calls_return      demand 2: what was written opens, and through any window in it `row` and `lookup` give the values back
--     Accepted, calls_accept             .. and is not vacuous: fewer than 2^32 values, known codecs of which one applies: with room enough `serialize` answers the column's length, and the column stands at the output's front
--     by_sheet, calls_pass               .. under either sheet
--     Told, calls_tell                   demand 3: what `row` answers depends on its row's own bits, and tells every change of them
-- Assumes nothing.
use Rattle.format.specs.declared.Refusal.{Refusal}
use Rattle.format.specs.Refusals.{answered_by}
use Rattle.std.specs.Prelude.{Option, None, Result, Ok, Err}
use Prim.Native.Nat.{ℕ, zero, suc, ◌+◌, ◌/◌, ◌^◌, ◌≤◌, ◌<◌}
use mathlib.Core.Path.{◌≡◌, refl, sym, ap, ◌∙◌, subst}
use mathlib.Core.Logic.{◌⊎◌, inl, inr, ⊎_elim}
use mathlib.Core.List.{List, [], ◌∷◌, ◌++◌}
use mathlib.Core.Bool.{Bool, true, false}
use native.Mathlib.Nat.{zero-add}
use native.Mathlib.Omega.{arith}
use lib.ListN.{length, take, drop, get_or}
use lib.Seq.{sets, sets-eq}
use borrow.Author.Tests.{lt-ltb}
use Rattle.format.specs.declared.Block.{Block}
use Rattle.format.specs.declared.Column.{Column}
use Rattle.format.specs.declared.Refusal.TheVariants.{OutputShort, OutOfBounds}
use Rattle.format.specs.declared.Window.{Window}
use Rattle.format.specs.Outcome.{Outcome, Outcome.value, Outcome.refusal}
use Rattle.format.specs.Word.{AllBelow}
use Rattle.format.specs.Bodies.{block_count}
use Rattle.format.specs.Writing.{written}
use Rattle.format.specs.Opening.{Loaded, opened}
use Rattle.format.specs.Sheets.{opened_under}
use Rattle.format.specs.Reading.{column_row, block_at, fits, row_in, row_at}
use Rattle.format.specs.Windows.{windowed, in_window}
use Rattle.format.specs.Lookup.{looked_up, within}
use Rattle.format.specs.Lengths.{reserve}
use Rattle.format.specs.Demands.{filled_by, answered, shown, reads_as, GivesBack, Applies, Alike, SameBits, Differ, RowsTell}
use Rattle.format.proofs.Answers.{answered_injective}
use Rattle.format.proofs.Outcomes.{not_value, value_same}
use Rattle.format.proofs.Windows.{NarrowedFrom, own_windows, never_unfit}
use Rattle.format.proofs.Writes.{written_as, Writes, never_needless}
use Rattle.format.proofs.MostBytes.{reserved}
use Rattle.format.proofs.Demand2.{demand2, written_shortest, written-passes}
use Rattle.format.proofs.Demand3.{demand3}
use Rattle.format.proofs.Stores.{front_of}
use Rattle.format.specs.Calls.{StoredAs, OpenedAs}

-- ---- opening

-- an answer of `open` that is a column: what opening found, whose column and spelling it is and whose blocks the lent table holds afterwards
pub record TableOpens (s : List ℕ) (table after : List Block) (c : Column) (p : Option ℕ) (o : Loaded) : Type 0 where
  pub found : opened s (length table) ≡ value o
  pub column : o.column ≡ c
  pub longer : o.longer ≡ p
  pub filled : after ≡ filled_by o table

pub opens : (s : List ℕ) (table after : List Block) (c : Column) (p : Option ℕ) → OpenedAs (opened s (length table)) (Ok (c, p)) table after → (o : Loaded) × TableOpens s table after c p o
opens s table after c p r = go (opened s (length table)) refl r
  where
    go : (x : Outcome Loaded) → opened s (length table) ≡ x → OpenedAs x (Ok (c, p)) table after → (o : Loaded) × TableOpens s table after c p o
    go (value o) is r =
        let same : ◌≡◌ {A = Column × (Option ℕ)} (c, p) (o.column, o.longer) = value_same r.answer in
        (o, record { found = is; column = sym (ap (λ (a : Column × (Option ℕ)). a.0) same); longer = sym (ap (λ (a : Column × (Option ℕ)). a.1) same); filled = r.table })
    go (refusal number also) is r = absurd (not_value (sym r.answer))

-- reading a window with what the call left is the demands' reading
pub reads : {s : List ℕ} {table after : List Block} {c : Column} {p : Option ℕ} {o : Loaded} → TableOpens s table after c p o → (w : Window) (r : ℕ) → row_at (windowed c w) after s r ≡ answered (in_window o w) table s r
reads {s} {table} {after} {c} {p} {o} e w r = rw (e.filled, ← e.column)

-- the rows of a column that was opened, and then narrowed any number of times, answer a value or 14
pub own_rows : (s : List ℕ) (table after : List Block) (c : Column) (p : Option ℕ) → OpenedAs (opened s (length table)) (Ok (c, p)) table after → (d : Column) → NarrowedFrom c d
    → (r : ℕ) → r < d.window.rows → (a : Result ℕ Refusal) → answered_by a ≡ row_at d after s r → ((v : ℕ) × (answered_by a ≡ value v)) ⊎ (a ≡ Err (OutOfBounds r))
own_rows s table after c p opened_as d from r h a e =
    let o = opens s table after c p opened_as in
    let f = subst (λ (x : Column). NarrowedFrom x d) (sym o.1.column) from in
    let same : row_at d after s r ≡ row_at d (filled_by o.0 table) s r = ap (λ (l : List Block). row_at d l s r) o.1.filled in
    ⊎_elim
    (λ v. inl (v.0, e ∙ same ∙ v.1))
    (λ g. inr (answered_injective a (Err (OutOfBounds r)) (e ∙ same ∙ g)))
    (own_windows s table o.0 o.1.found f r h)

-- where the test of fitting together fails, a row is refused 13
unfit_row : (d : Column) (table : List Block) (s : List ℕ) (r : ℕ) → r < d.window.rows → fits d (length table) (block_at table (column_row d r / 512)) s (column_row d r) ≡ false → row_at d table s r ≡ refusal 13 []
unfolding row_in
unfit_row d table s r h e = rw (lt-ltb r d.window.rows h, e)

-- such a column, read with the very bytes and table of its opening, fits together with them at every row: 13 is never met
pub own_fits : (s : List ℕ) (table after : List Block) (c : Column) (p : Option ℕ) → OpenedAs (opened s (length table)) (Ok (c, p)) table after → (d : Column) → NarrowedFrom c d
    → (r : ℕ) → r < d.window.rows → fits d (length after) (block_at after (column_row d r / 512)) s (column_row d r) ≡ true
own_fits s table after c p opened_as d from r h =
    by_test (fits d (length after) (block_at after (column_row d r / 512)) s (column_row d r)) refl
  where
    o : (l : Loaded) × TableOpens s table after c p l
    o = opens s table after c p opened_as

    never : row_at d after s r ≡ refusal 13 [] → ⊥
    never e = never_unfit s table o.0 o.1.found (subst (λ (x : Column). NarrowedFrom x d) (sym o.1.column) from) r (ap (λ (l : List Block). row_at d l s r) (sym o.1.filled) ∙ e)

    by_test : (t : Bool) → fits d (length after) (block_at after (column_row d r / 512)) s (column_row d r) ≡ t → t ≡ true
    by_test true e = refl
    by_test false e = absurd (never (unfit_row d after s r h e))

-- ---- demand 2

-- what an answer of `serialize` that is a length comes from: a column, which now stands at the output's front
pub written_of : (x : Outcome (List ℕ)) (before after : List ℕ) (n : ℕ) → StoredAs x (Ok n) before after
    → (bytes : List ℕ) × (x ≡ value bytes) × (n ≡ length bytes) × (after ≡ sets before 0 bytes)
written_of (value bytes) before after n r =
    let e : value n ≡ value (length bytes) = r.answer in
    (bytes, refl, (cc), r.list)
written_of (refusal number also) before after n r =
    let e : ◌≡◌ {A = Outcome ℕ} (value n) (refusal number also) = r.answer in
    let z : ◌≡◌ {A = ℕ} 0 1 = cc in
    absurd (omega arith)

-- what the calls give back of a list through a column's window: as many rows, each value, and what a lookup in the list finds
pub record Shows (vs s : List ℕ) (after : List Block) (c : Column) : Type 0 where
  pub count : c.window.rows ≡ length vs
  pub rows : (r : ℕ) → r < length vs → (b : Result ℕ Refusal) → answered_by b ≡ row_at c after s r → b ≡ Ok (get_or vs r 0)
  pub found : (low high first end : ℕ) (before list : List ℕ) (f : Result ℕ Refusal)
      → StoredAs (looked_up (row_at c after s) c.window.rows (within low high) first end (length before)) f before list
      → StoredAs (looked_up (reads_as vs) (length vs) (within low high) first end (length before)) f before list

-- from bytes that were opened: a column that is spelled as short as can be and gives back the list, and through any window in it that part of the list
pub record Returned (vs s : List ℕ) (after : List Block) (a : Result (Column × Option ℕ) Refusal) : Type 0 where
  pub column : Column
  pub opens_to : a ≡ Ok (column, None)
  pub all : Shows vs s after column
  pub windows : (w : Window) → w.first + w.rows ≤ column.rows → Shows (shown w vs) s after (windowed column w)

-- what an opened column gives back
shows : (vs bytes : List ℕ) (table after : List Block) (o : Loaded) → after ≡ filled_by o table → GivesBack vs bytes table o → Shows vs bytes after o.column
shows vs bytes table after o left back =
    record {
      count = back.count;
      rows = λ (r : ℕ) (h : r < length vs) (b : Result ℕ Refusal) (f : answered_by b ≡ row_at o.column after bytes r).
          answered_injective b (Ok (get_or vs r 0)) (f ∙ rw left (back.rows r h));
      found = λ (low high first end : ℕ) (before list : List ℕ) (f : Result ℕ Refusal).
          subst (λ (x : Outcome (List ℕ)). StoredAs x f before list)
          (rw left (back.found low high first end (length before)));
    }

-- a written column that is opened
returned : (vs cs bytes : List ℕ) (table after : List Block) (room : ℕ) → AllBelow (2 ^ 64) vs → written vs cs room ≡ value bytes → block_count (length vs) ≤ length table
    → (a : Result (Column × Option ℕ) Refusal) → OpenedAs (opened bytes (length table)) a table after → Returned vs bytes after a
returned vs cs bytes table after room each e enough a opened_as =
    let g = demand2.0 vs cs bytes table room each e enough in
    let o : Loaded = g.0 in
    let left : after ≡ filled_by o table = opened_as.table ∙ rw g.1 in
    record {
      column = o.column;
      opens_to = answered_injective a (Ok (o.column, None)) (opened_as.answer ∙ rw (g.1, written_shortest vs cs bytes table room each e enough o g.1));
      all = shows vs bytes table after o left g.2;
      windows = λ w inside. shows (shown w vs) bytes table after (in_window o w) left (g.3 w inside);
    }

-- demand 2, of the calls: what `serialize` wrote, opened with any table that has room, gives back the list
pub calls_return : (vs cs out written_out : List ℕ) (n : ℕ) → AllBelow (2 ^ 64) vs → StoredAs (written vs cs (length out)) (Ok n) out written_out
    → (table after : List Block) → block_count (length vs) ≤ length table
    → (a : Result (Column × Option ℕ) Refusal) → OpenedAs (opened (take n written_out) (length table)) a table after → Returned vs (take n written_out) after a
calls_return vs cs out written_out n each wrote table after enough a opened_as =
    let w = written_of (written vs cs (length out)) out written_out n wrote in
    let front : take n written_out ≡ w.0 = front_of out written_out w.0 n w.2 w.3 (written_as vs cs w.0 (length out) w.1).fits in
    subst (λ (s : List ℕ). OpenedAs (opened s (length table)) a table after → Returned vs s after a) (sym front)
    (returned vs cs w.0 table after (length out) each w.1 enough a) opened_as

-- ---- demand 2, not vacuous

-- what `serialize` does with values that have a column, whatever output it is lent. With room: the column's length, the column at the output's front, the rest as it was. Without: refusal 4 with that length, and the output
-- as it was. Room of which the list's length alone tells is enough
pub record Accepted (vs cs bytes : List ℕ) : Type 0 where
  pub most : length bytes ≤ reserve (length vs)
  pub there : (out after : List ℕ) (a : Result ℕ Refusal) → length bytes ≤ length out → StoredAs (written vs cs (length out)) a out after
      → (a ≡ Ok (length bytes)) × (after ≡ bytes ++ drop (length bytes) out)
  pub short : (out after : List ℕ) (a : Result ℕ Refusal) → length out < length bytes → StoredAs (written vs cs (length out)) a out after
      → (a ≡ Err (OutputShort (length bytes))) × (after ≡ out)

pub calls_accept : (vs cs : List ℕ) (j : ℕ) → length vs < 2 ^ 32 → AllBelow 3 cs → j < length cs → Applies (get_or cs j 0) vs → (bytes : List ℕ) × Accepted vs cs bytes
calls_accept vs cs j few known h applies = (
  w.bytes,
  record {
    most = reserved vs cs w.bytes (length w.bytes) (w.there (length w.bytes) (omega arith));
    there = λ out after a room wrote.
        let r : StoredAs (value w.bytes) a out after = subst (λ (x : Outcome (List ℕ)). StoredAs x a out after) (w.there (length out) room) wrote in
        (answered_injective a (Ok (length w.bytes)) r.answer, r.list ∙ sets-eq w.bytes out 0 (omega arith) ∙ ap (λ (n : ℕ). w.bytes ++ drop n out) (zero-add (length w.bytes)));
    short = λ out after a less wrote.
        let r : StoredAs (refusal 4 (length w.bytes ∷ [])) a out after = subst (λ (x : Outcome (List ℕ)). StoredAs x a out after) (w.short (length out) less) wrote in
        (answered_injective a (Err (OutputShort (length w.bytes))) r.answer, r.list);
  },
)
  where
    w : Writes vs cs
    w = never_needless vs cs j few (λ i l. omega (arith, known i l)) h applies

-- ---- sheets

-- what passes both sheets opens under each as it opens
pub by_sheet : (sheet : ℕ) (s : List ℕ) (room : ℕ) (o : Loaded) → opened s room ≡ value o → (opened_under 1 s room ≡ value o) × (opened_under 2 s room ≡ value o)
    → 0 < sheet → sheet ≤ 2 → opened_under sheet s room ≡ opened s room
by_sheet zero s room o is both more known = absurd (omega arith)
by_sheet (suc zero) s room o is both more known = both.0 ∙ sym is
by_sheet (suc (suc zero)) s room o is both more known = both.1 ∙ sym is
by_sheet (suc (suc (suc sheet))) s room o is both more known = absurd (omega arith)

-- demand 2, of the calls, under either sheet: what `serialize` wrote is accepted and gives back the list
pub calls_pass : (vs cs out written_out : List ℕ) (n : ℕ) → AllBelow (2 ^ 64) vs → StoredAs (written vs cs (length out)) (Ok n) out written_out
    → (table after : List Block) → block_count (length vs) ≤ length table → (sheet : ℕ) → 0 < sheet → sheet ≤ 2
    → (a : Result (Column × Option ℕ) Refusal) → OpenedAs (opened_under sheet (take n written_out) (length table)) a table after → Returned vs (take n written_out) after a
calls_pass vs cs out written_out n each wrote table after enough sheet more known a opened_as =
    let w = written_of (written vs cs (length out)) out written_out n wrote in
    let front : take n written_out ≡ w.0 = front_of out written_out w.0 n w.2 w.3 (written_as vs cs w.0 (length out) w.1).fits in
    let g = demand2.0 vs cs w.0 table (length out) each w.1 enough in
    let both = written-passes vs cs w.0 table (length out) each w.1 enough g.0 g.1 in
    let same : opened_under sheet (take n written_out) (length table) ≡ opened (take n written_out) (length table) =
    rw front (by_sheet sheet w.0 (length table) g.0 g.1 both more known) in
    calls_return vs cs out written_out n each wrote table after enough a (subst (λ (x : Outcome Loaded). OpenedAs x a table after) same opened_as)

-- ---- demand 3

-- two byte strings that differ only inside the packed area, each opened by a call: one column, and answers in any window that go by the row's own bits
pub record Told (s t : List ℕ) (after other_After : List Block) (c d : Column) (o : Loaded) : Type 0 where
  pub same : c ≡ d
  pub agree : (w : Window) → w.first + w.rows ≤ c.rows → (r : ℕ) → r < w.rows → SameBits o s t (w.first + r)
      → (a b : Result ℕ Refusal) → answered_by a ≡ row_at (windowed c w) after s r → answered_by b ≡ row_at (windowed d w) other_After t r → a ≡ b
  pub differ : (w : Window) → w.first + w.rows ≤ c.rows → (r : ℕ) → r < w.rows → (SameBits o s t (w.first + r) → ⊥)
      → (a b : Result ℕ Refusal) → answered_by a ≡ row_at (windowed c w) after s r → answered_by b ≡ row_at (windowed d w) other_After t r
      → (a ≡ b → ⊥) ⊎ ((a ≡ Err (OutOfBounds r)) × (b ≡ Err (OutOfBounds r)))

-- answers that differ on paper differ
differ_too : (r : ℕ) (a b : Result ℕ Refusal) (x y : Outcome ℕ) → answered_by a ≡ x → answered_by b ≡ y → Differ r x y
    → (a ≡ b → ⊥) ⊎ ((a ≡ Err (OutOfBounds r)) × (b ≡ Err (OutOfBounds r)))
differ_too r a b x y e f (inl apart) = inl (λ (same : a ≡ b). apart (sym e ∙ ap answered_by same ∙ f))
differ_too r a b x y e f (inr both) =
    inr (answered_injective a (Err (OutOfBounds r)) (e ∙ both.0), answered_injective b (Err (OutOfBounds r)) (f ∙ both.1))

-- demand 3, of the calls
pub calls_tell : (s t : List ℕ) (table other after other_After : List Block) (c d : Column) (q r : Option ℕ) (o p : Loaded) → TableOpens s table after c q o → TableOpens t other other_After d r p → Alike s t o
    → Told s t after other_After c d o
calls_tell s t table other after other_After c d q r o p e f alike =
    let told : RowsTell s t table other o p = demand3.2 s t table other o p e.found f.found alike in
    record {
      same = sym e.column ∙ ap (λ (x : Loaded). x.column) told.same ∙ f.column;
      agree = λ w inside r h bits a b x y.
          answered_injective a b (x ∙ reads e w r ∙ told.agree w (rw e.column inside) r h bits ∙ sym (y ∙ reads f w r));
      differ = λ w inside r h bits a b x y.
          differ_too r a b (answered (in_window o w) table s r) (answered (in_window p w) other t r) (x ∙ reads e w r) (y ∙ reads f w r) (told.differ w (rw e.column inside) r h bits);
    }
