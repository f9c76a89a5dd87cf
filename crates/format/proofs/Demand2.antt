-- Demand 2: what was written opens and gives back what was written.
--     demand2             the demand
--     written_shortest    what was written opens with the shortest spellings
--     written-passes      what was written passes both sheets
--     found_rows          what a lookup in the column finds
-- Assumes nothing.
use Rattle.std.specs.Prelude.{Option, None}
use mathlib.Core.Path.{◌≡◌, sym, ap, ◌∙◌}
use mathlib.Core.List.{List, [], ◌∷◌}
use Prim.Native.Nat.{ℕ, zero, suc, ◌-◌, ◌^◌, ◌≤◌, min}
use native.Mathlib.Omega.{arith}
use lib.Dec.{leb}
use lib.ListN.{length}
use Rattle.format.specs.declared.Block.{Block}
use Rattle.format.specs.Outcome.{Outcome.value, ◌>>◌, demand}
use Rattle.format.specs.Word.{AllBelow}
use Rattle.format.specs.Bodies.{block_count, column_by}
use Rattle.format.specs.Writing.{written}
use Rattle.format.specs.Opening.{Loaded, opened}
use Rattle.format.specs.Sheets.{strict, under_sheet, opened_under}
use Rattle.format.specs.Lookup.{looked_up, within}
use Rattle.format.specs.Demands.{Returns, Accepts, Demand2, GivesBack, answered}
use Rattle.format.proofs.Outcomes.{value_same}
use Rattle.format.proofs.Lookups.{found_in, looked_up_lem}
use Rattle.format.proofs.RoundTrip.{RoundTrips, window_back, gives_back}
use Rattle.format.proofs.Writes.{written_as, never_needless}
use Rattle.format.proofs.Bitpacked.{bitpacked_round}
use Rattle.format.proofs.Linear.{linear_round}
use Rattle.format.proofs.Blockwise.{blockwise_round}

-- a known codec is one of three
pub any_codec : (codec : ℕ) → codec ≤ 2 → RoundTrips codec
any_codec zero h = bitpacked_round
any_codec (suc zero) h = linear_round
any_codec (suc (suc zero)) h = blockwise_round
any_codec (suc (suc (suc codec))) h = absurd (omega arith)

-- what was written opens, and gives back every row and every row in a value range
returns : Returns
returns vs cs bytes table room each e enough =
    let w = written_as vs cs bytes room e in
    let back = any_codec w.codec w.known vs each w.few w.applies in
    let g = gives_back back table enough in
    rw w.is (back.loaded, g.0, g.1, window_back back table enough)

-- its numbers are spelled as short as can be
pub written_shortest : (vs cs bytes : List ℕ) (table : List Block) (room : ℕ) → AllBelow (2 ^ 64) vs → written vs cs room ≡ value bytes → block_count (length vs) ≤ length table
    → (o : Loaded) → opened bytes (length table) ≡ value o → o.longer ≡ None
written_shortest vs cs bytes table room each e enough o opens =
    let w = written_as vs cs bytes room e in
    let back = any_codec w.codec w.known vs each w.few w.applies in
    let there : opened bytes (length table) ≡ value back.loaded = ap (λ (s : List ℕ). opened s (length table)) w.is ∙ (gives_back back table enough).0 in
    ap (λ (l : Loaded). l.longer) (value_same (sym opens ∙ there)) ∙ back.shortest

-- and it passes both sheets
pub written-passes : (vs cs bytes : List ℕ) (table : List Block) (room : ℕ) → AllBelow (2 ^ 64) vs → written vs cs room ≡ value bytes → block_count (length vs) ≤ length table
    → (o : Loaded) → opened bytes (length table) ≡ value o
    → (opened_under 1 bytes (length table) ≡ value o) × (opened_under 2 bytes (length table) ≡ value o)
unfolding under_sheet
written-passes vs cs bytes table room each e enough o opens =
    let w = written_as vs cs bytes room e in
    let back = any_codec w.codec w.known vs each w.few w.applies in
    let there : opened bytes (length table) ≡ value back.loaded = ap (λ (s : List ℕ). opened s (length table)) w.is ∙ (gives_back back table enough).0 in
    let same : o ≡ back.loaded = value_same (sym opens ∙ there) in
    let passes : strict bytes o.column o.longer ≡ value tt =
    ap (λ (s : List ℕ). strict s o.column o.longer) w.is
    ∙ ap (λ (l : Loaded). strict (column_by w.codec vs) l.column l.longer) same
    ∙ ap (λ (p : Option ℕ). strict (column_by w.codec vs) back.loaded.column p) back.shortest
    ∙ back.passes in
    (opens, rw (opens, passes))

-- whatever can be written is written wherever there is room
accepts : Accepts
accepts vs cs j few known h applies =
    let w = never_needless vs cs j few (λ i l. omega (arith, known i l)) h applies in
    (w.bytes, w.there)

pub demand2 : Demand2
demand2 = (returns, accepts)

-- a lookup in what came back tells the rows of the run, cut to the list, whose value lies in the range (Lookups.exactly and Lookups.ascends: exactly those, ascending), wherever the
-- list for them has room; and how many they are where it has not
pub found_rows : (vs bytes : List ℕ) (table : List Block) (o : Loaded) → GivesBack vs bytes table o → (low high first end room : ℕ)
    → looked_up (answered o table bytes) o.column.window.rows (within low high) first end room
    ≡ (demand (leb (length (found_in vs (within low high) first (min end (length vs) - first))) room) 15 (length (found_in vs (within low high) first (min end (length vs) - first)) ∷ [])
    >> value (found_in vs (within low high) first (min end (length vs) - first)))
found_rows vs bytes table o g low high first end room = g.found low high first end room ∙ looked_up_lem vs (within low high) first end room
