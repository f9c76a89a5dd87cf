-- The verdict on what opening under a sheet found.
--     Owns                         opening some bytes finds a column, with some room
--     rows_few, maximum_fits       its rows have 32 bits, its maximum 64
--     blocks-checked               its blocks were checked
--     Stands, stands, owned        what an answer that is a column comes from, under a sheet
--     Turning, turning_starts      the invariant of the walk over the rows, by a pass over the blocks
--     turn_room, turn_less, turn_again
--                                  a turn: what it asks for, that less is left, and that the invariant is kept
--     refused_unopened, counts_differ, walked-verdict
--                                  the verdict: opening's refusal, the counts, or what the walk over the rows came to
-- Assumes nothing.
use Rattle.format.specs.declared.Mismatch.TheVariants.{Unopened, Counts}
use Rattle.std.specs.Prelude.{Option, Result, Ok, Err}
use Prim.Native.Nat.{ℕ, ◌+◌, ◌-◌, ◌*◌, ◌/◌, ◌%◌, ◌^◌, ◌≤◌, ◌<◌, min}
use mathlib.Core.Path.{◌≡◌, refl, sym, ap, ◌∙◌, subst}
use mathlib.Core.Bool.{true, false}
use mathlib.Core.List.{List}
use native.Mathlib.Nat.{mul_comm}
use native.Mathlib.Omega.{arith}
use borrow.Author.Tests.{ne_eqb}
use lib.ListN.{length, take, drop}
use Rattle.format.specs.declared.Column.{Column}
use Rattle.format.specs.declared.Refusal.{Refusal}
use Rattle.format.specs.Bodies.{block_count}
use Rattle.format.specs.Checking.{Verdict, judged, checked}
use Rattle.format.specs.Opening.{Loaded, opened, column_in}
use Rattle.format.specs.Outcome.{Outcome, Outcome.value, Outcome.refusal}
use Rattle.format.specs.Reading.{column_row, block_at, row_in, row_at}
use Rattle.format.specs.Refusals.{paper, checked_meaning, answered_by}
use Rattle.format.specs.Sheets.{opened_under}
use Rattle.format.proofs.Laid.{Laid, opened_laid, opened-whole}
use Rattle.format.proofs.Outcomes.{not_value, value_same}
use Rattle.blockwise_linear.specs.declared.passing.Pass.{Pass}
use Rattle.blockwise_linear.specs.Passing.{passed, Passing}
use Rattle.blockwise_linear.specs.Reader.{first_cursor, blocks_from, Good}
use Rattle.blockwise_linear.proofs.Stops.{passing_starts}
use Rattle.read_row.specs.Chunks.{chunk_size}
use Rattle.read_chunk.specs.Stretch.{counted, StretchAs}
use Rattle.read_chunk.proofs.Chunks.{in_block}
use Rattle.read_chunk.proofs.Stretches.{stretch_by, stretch_for}
use Rattle.open_sheet.proofs.SheetNumbers.{accepted}
use Rattle.open_column.specs.Opening.{blocked}
use Rattle.open_column.proofs.Passes.{opened-footer, pass_block, few_blocked, passing_at}
use Rattle.check_verdict.specs.declared.rows.Walk.{Walk}
use Rattle.check_verdict.specs.Asked.{FromOpening}
use Rattle.check_verdict.specs.Walks.{same_front, behind, left, Walking, verdict}
use Rattle.check_verdict.proofs.Steps.{stretch-kept, walking_starts, walking_step, step_less, step_room, walked_over}

-- ---- a column of some bytes

-- opening the bytes, with some room, finds it
pub record Owns (s : List ℕ) (c : Column) (o : Loaded) : Type 0 where
  pub room : ℕ
  pub found : opened s room ≡ value o
  pub column : o.column ≡ c

module _ {s : List ℕ} {c : Column} {o : Loaded} (e : Owns s c o) where
  laid : Laid (length s) e.room o
  laid = opened_laid s e.room o e.found

  pub rows_few : c.rows < 2 ^ 32
  rows_few = subst (λ (k : Column). k.rows < 2 ^ 32) e.column laid.head.few

  pub maximum_fits : c.minimum + c.gcd * c.count < 2 ^ 64
  maximum_fits =
      let bounds = subst (λ (k : Column). k.minimum + k.count * k.gcd < 2 ^ 64) e.column laid.head.bounds in
      omega (arith, mul_comm c.gcd c.count)

  -- it is seen whole
  first_row : c.window.first ≡ 0
  first_row = subst (λ (k : Column). k.window.first ≡ 0) e.column (sym (ap (λ (l : Loaded). l.column.window.first) (opened-whole s e.room o e.found)))

  all_rows_lem : c.window.rows ≡ c.rows
  all_rows_lem = subst (λ (k : Column). k.window.rows ≡ k.rows) e.column (sym (ap (λ (l : Loaded). l.column.window.rows) (opened-whole s e.room o e.found)))

  -- its blocks, by the rows that have any
  module _ {rows : ℕ} (has : rows ≡ blocked c.codec c.rows) where
    pub blocks-checked : Good (blocks_from s (first_cursor s rows))
    blocks-checked = rw (has, ← e.column) (opened-footer s e.room o e.found).checked

    rows_blocked : rows < 2 ^ 32
    rows_blocked = rw has (few_blocked c.codec rows_few)

    block_count_lem : block_count rows ≡ length o.table
    block_count_lem = rw (has, ← e.column) (opened-footer s e.room o e.found).count

    block_there : (r : ℕ) → r < c.rows → (passed s rows (min (r / 512 + 1) (block_count rows))).block ≡ block_at o.table (column_row c r % 2 ^ 32 / 512)
    block_there r inside =
        let here : r / 512 ≡ column_row c r % 2 ^ 32 / 512 = omega (arith, first_row, rows_few) in
        rw (← here, has, ← e.column) (pass_block s e.room o e.found laid.head.few r (rw e.column inside))

    -- a chunk with the block that a pass stands at is a chunk by the opening's own blocks
    own_stretch : (r n : ℕ) {p : Pass} {blocks : ℕ} {a : Result ℕ (ℕ × Refusal)} {old new : List ℕ} → c.rows ≡ n → p ≡ passed s rows (min (r / 512 + 1) (block_count rows)) → blocks ≡ block_count rows
        → StretchAs (row_in c blocks p.block s) r (chunk_size (column_row c r) (c.window.rows - r)) a old new → StretchAs (row_at c o.table s) r (chunk_size r (n - r)) a old new
    own_stretch r n {p} {blocks} long at many chunk =
        let size : chunk_size (column_row c r) (c.window.rows - r) ≡ chunk_size r (n - r) = omega (arith, first_row, all_rows_lem, long) in
        stretch_for size
        (stretch_by (row_in c blocks p.block s) (row_at c o.table s) r (chunk_size (column_row c r) (c.window.rows - r))
        (λ x low high.
        in_block c rows_few o.table s r (chunk_size (column_row c r) (c.window.rows - r)) (many ∙ block_count_lem)
        (ap (λ (q : Pass). q.block) at ∙ block_there r (omega (arith, all_rows_lem))) (omega arith) x low high)
        chunk)

-- ---- opening

-- an answer that is a column: what opening found, under the sheet too, whose column it is
pub record Stands (sheet : ℕ) (s : List ℕ) (room : ℕ) (c : Column) (o : Loaded) : Type 0 where
  pub under : opened_under sheet s room ≡ value o
  pub owns : Owns s c o

pub stands : (sheet : ℕ) (s : List ℕ) (room : ℕ) {c : Column} {p : Option ℕ} {a : Result (Column × Option ℕ) Refusal} → a ≡ Ok (c, p) → answered_by a ≡ column_in (opened_under sheet s room)
    → (o : Loaded) × Stands sheet s room c o
stands sheet s room {c} {p} {a} told answer = go (opened_under sheet s room) refl (sym (ap answered_by told) ∙ answer)
  where
    go : (x : Outcome Loaded) → opened_under sheet s room ≡ x → answered_by (Ok (c, p)) ≡ column_in x → (o : Loaded) × Stands sheet s room c o
    go (value o) is r = (
      o,
      record {
        under = is;
        owns = record { room = room; found = accepted sheet s (opened s room) o is; column = sym (ap (λ (x : Column × (Option ℕ)). x.0) (value_same r)) };
      },
    )
    go (refusal number also) is r = absurd (not_value (sym r))

-- the column that some opening answered
pub owned : {s : List ℕ} {c : Column} {p : Option ℕ} {a : Result (Column × Option ℕ) Refusal} → a ≡ Ok (c, p) → FromOpening s a → (o : Loaded) × Owns s c o
owned told f = let o = stands f.sheet _ f.room told f.is in
    (o.0, o.1.owns)

-- ---- the walk over the rows

-- under way by the numbers of whatever opening finds the column, with a pass over its blocks and a list of 512 entries
pub record Turning (s : List ℕ) (c : Column) (rows : ℕ) (vs decoded : List ℕ) (p : Pass) (w : Walk) : Type 0 where
  pub walking : (o : Loaded) → Owns s c o → Walking (row_at c o.table s) vs w
  pub long : length decoded ≡ 512
  pub pass : Passing s rows p

pub turning_starts : {s : List ℕ} {c : Column} {rows : ℕ} {vs decoded : List ℕ} {p : Pass} → p ≡ passed s rows 0 → length decoded ≡ 512
    → Turning s c rows vs decoded p (record { at = 0; going = true })
turning_starts {s} {c} {rows} {vs} at long = record { walking = λ o own. walking_starts (row_at c o.table s) vs; long = long; pass = (passing_starts at).0 }

module _ {s : List ℕ} {c : Column} {o : Loaded} (own : Owns s c o) {rows : ℕ} (has : rows ≡ blocked c.codec c.rows) {vs : List ℕ} (count : c.rows ≡ length vs)
    {decoded : List ℕ} {p : Pass} {w : Walk} (f : Turning s c rows vs decoded p w)
    {q : Pass} (at : q ≡ passed s rows (min (w.at / 512 + 1) (block_count rows)))
    {blocks : ℕ} (many : blocks ≡ block_count rows)
    {a : Result ℕ (ℕ × Refusal)} {new : List ℕ} (chunk : StretchAs (row_in c blocks q.block s) w.at (chunk_size (column_row c w.at) (c.window.rows - w.at)) a decoded new) where
  by_own : (o : Loaded) → Owns s c o → StretchAs (row_at c o.table s) w.at (chunk_size w.at (length vs - w.at)) a decoded new
  by_own o e = own_stretch e has w.at (length vs) count at many chunk

  pub turn_room : (n : ℕ) → n ≡ length vs → (counted a ≤ length new) × (w.at ≤ n) × (w.at + counted a < 2 ^ 32)
  turn_room n is = step_room (row_at c o.table s) (f.walking o own) n is (omega (arith, rows_few own)) f.long (by_own o own)

  module _ {next : Walk} (is : next ≡ behind (counted a) (same_front (take (counted a) new) (drop w.at vs)) w) where
    pub turn_less : w.going ≡ true → left (length vs) next < left (length vs) w
    turn_less on = step_less (row_at c o.table s) (f.walking o own) f.long (by_own o own) is on

    pub turn_again : Turning s c rows vs new q next
    turn_again =
        record {
          walking = λ o e. walking_step (row_at c o.table s) (f.walking o e) f.long (by_own o e) is;
          long = stretch-kept chunk ∙ f.long;
          pass = subst (λ (x : Pass). Passing s rows x) (sym at) (passing_at (rows_blocked own has) (blocks-checked own has) _ (omega arith));
        }

-- ---- the verdicts

module _ (sheet : ℕ) (s : List ℕ) (room : ℕ) (vs : List ℕ) {a : Result (Column × Option ℕ) Refusal} (answer : answered_by a ≡ column_in (opened_under sheet s room)) where
  pub refused_unopened : {x : Refusal} → a ≡ Err x → checked_meaning (Err (Unopened x)) ≡ checked (opened_under sheet s room) s vs
  refused_unopened {x} told = go (opened_under sheet s room) (sym (ap answered_by told) ∙ answer)
    where
      go : (o : Outcome Loaded) → answered_by (Err x) ≡ column_in o → checked_meaning (Err (Unopened x)) ≡ checked o s vs
      go (value l) r = absurd (not_value r)
      go (refusal number also) r =
          let same : ◌≡◌ {A = Outcome Loaded} (refusal (paper x).0 (paper x).1) (refusal number also) = cc r in
          cc

  module _ {c : Column} {p : Option ℕ} (told : a ≡ Ok (c, p)) where
    -- the verdict on the rows, by the opening's own blocks
    on_rows : (o : Loaded) → Stands sheet s room c o → checked (opened_under sheet s room) s vs ≡ judged (row_at c o.table s) c vs
    on_rows o e = ap (λ (x : Outcome Loaded). checked x s vs) e.under ∙ ap (λ (k : Column). judged (row_at k o.table s) k vs) e.owns.column

    pub counts_differ : (n : ℕ) → n ≡ length vs → (c.rows ≡ n → ⊥) → checked_meaning (Err (Counts c.rows n)) ≡ checked (opened_under sheet s room) s vs
    unfolding judged
    counts_differ n long other =
        let o = stands sheet s room told answer in
        sym (on_rows o.0 o.1 ∙ rw (← long, ne_eqb c.rows n other) refl)

    pub walked-verdict : {rows : ℕ} {decoded : List ℕ} {q : Pass} {w : Walk} {v : Verdict} → c.rows ≡ length vs → Turning s c rows vs decoded q w → w.going ≡ false
        → v ≡ verdict c vs w.at → v ≡ checked (opened_under sheet s room) s vs
    walked-verdict count f stops means =
        let o = stands sheet s room told answer in
        means ∙ sym (on_rows o.0 o.1 ∙ walked_over (row_at c o.0.table s) (f.walking o.0 o.1.owns) c stops count)
