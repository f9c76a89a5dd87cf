-- `fill_lines` meets its contract. The invariant is `Filling`, with how many offsets were looked at.
-- Assumes nothing.
use Prim.Native.Nat.{ℕ, ◌+◌, ◌-◌}
use mathlib.Core.Path.{◌≡◌, sym, ap₂, subst}
use mathlib.Core.List.{List}
use native.Mathlib.Omega.{arith}
use lib.ListN.{length}
use Rattle.format.specs.declared.Column.{Column}
use Rattle.text.specs.Chunk.{chunk_rows}
use Rattle.text.proofs.Chunks.{chunk_none, chunk_full}
use Rattle.text.proofs.Filling.{Filling, filling_starts, filling_more, filling_rows, filling_bytes, filling_list}
use Rattle.text.proofs.Texts.{counts}
use Rattle.text_column.specs.declared.own.Own.{Own}
use Rattle.text_column.specs.Own.{own_first, Opens, Owned}
use Rattle.text_column.proofs.Owns.{owned_first}
use Rattle.text_column.proofs.Rows.{opens_shows}
use Rattle.text_blame_bytes.specs.Owners.{Stays}
use Rattle.text_blame_bytes.proofs.Passed.{stays_here, stays_owned, stays_then}
use Rattle.text_blame_lines.specs.Bytes.{blame_max, text_at}
use Rattle.text_blame.specs.declared.Looked.{Looked}
use Rattle.text_blame.specs.Chunk.{looked_in, LookedAs}
use Rattle.text_blame.proofs.fill_lines.Goals as goal

-- a column before its first block
begins : {s : List ℕ} {column : Column} {own : Own} → Opens s column → own ≡ own_first s column → Stays s own own
begins {s} e is = stays_here (subst (λ (x : Own). Owned s x.column x.pass) (sym is) (owned_first (opens_shows e)))

-- where nothing is left to take
looked_all : (left right : Column) (s t : List ℕ) {l r : Own} {from i : ℕ} {looked : Looked} {old new : List ℕ} → l ≡ own_first s left → r ≡ own_first t right →
    let text = text_at l.column s r.column t in
    Filling text blame_max (length s) from old new i looked.bytes → from + looked.offsets ≡ i → chunk_rows text blame_max (length s) (length old - looked.bytes) i ≡ 0
    → LookedAs left s right t from looked old new
looked_all left right s t {l} {r} {from} {i} {looked} {old} first second f counted none =
    let offsets : looked.offsets ≡ chunk_rows (text_at l.column s r.column t) blame_max (length s) (length old) from = omega (arith, filling_rows f none) in
    let answer : looked ≡ looked_in (text_at l.column s r.column t) (length s) (length old) from = ap₂ (λ (n m : ℕ). record { offsets = n; bytes = m }) offsets (filling_bytes f none) in
    (rw (first, second) at answer, (rw (first, second) at (filling_list f none), counts _ _ (omega (arith, f.room, f.kept))))

pub loop-i-init : goal.loop-i-init
loop-i-init c = (begins c.requires.0 c.begin-l.ensures, begins c.requires.1 c.begin-r.ensures, filling_starts _ _ _ _ _, omega arith)

pub put_offset-put-requires : goal.put_offset-put-requires
put_offset-put-requires c =
    let inv = c.loop-i.invariant in
    record { owned = (stays_owned inv.0, stays_owned inv.1); blame_max_in_bounds = omega (arith, inv.2.room, inv.2.kept) }

pub loop-i-preserved : goal.loop-i-preserved
loop-i-preserved c =
    let inv = c.loop-i.invariant in (
      stays_then inv.0 c.put_offset-put.ensures.stays.0,
      stays_then inv.1 c.put_offset-put.ensures.stays.1,
      filling_more inv.2 c.loop-i-test.true (omega arith) (rw (inv.0.column, inv.1.column) at c.put_offset-put.ensures.wrote) c.put_offset-put.ensures.end_bound,
      omega (arith, inv.3),
    )

pub returns-then-out-looked-lt-BLAME_MAX : goal.returns-then-out-looked-lt-BLAME_MAX
returns-then-out-looked-lt-BLAME_MAX c =
    let inv = c.loop-i.invariant in
    looked_all _ _ _ _ c.begin-l.ensures c.begin-r.ensures inv.2 inv.3 (chunk_full _ _ _ _ _ (omega (arith, inv.2.kept)))

pub returns-after-loop-i : goal.returns-after-loop-i
returns-after-loop-i c =
    let inv = c.loop-i.invariant in
    looked_all _ _ _ _ c.begin-l.ensures c.begin-r.ensures inv.2 inv.3 (chunk_none _ _ _ _ _ c.loop-i-test.false)
