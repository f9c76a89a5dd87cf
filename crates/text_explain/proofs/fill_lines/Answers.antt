-- `fill_lines` meets its contract. The invariant is `Filling`, with the place of the next part; the measure is the number of parts left.
-- Assumes nothing.
use Prim.Native.Nat.{ℕ, ◌+◌, ◌-◌, ◌<◌, ◌^◌}
use mathlib.Core.Path.{◌≡◌, sym, ap, ◌∙◌}
use mathlib.Core.List.{List}
use native.Mathlib.Omega.{arith}
use lib.ListN.{length}
use Rattle.format.specs.declared.Column.{Column}
use Rattle.format.specs.Parts.{parts_of}
use Rattle.text.specs.Chunk.{chunk_rows}
use Rattle.text.proofs.Chunks.{chunk_none, chunk_full}
use Rattle.text.proofs.Filling.{Filling, filling_more, filling_rows, filling_bytes, filling_list}
use Rattle.text.proofs.Texts.{counts}
use Rattle.text_explain.specs.declared.Told.{Told}
use Rattle.text_explain.specs.Chunk.{ToldAs}
use Rattle.text_explain.specs.Explained.{part_max, text_at, first_text}
use Rattle.text_explain.proofs.Placing.{placed_more, placed_done, parts_few}
use Rattle.text_explain.proofs.fill_lines.Goals as goal

-- where nothing is left to take
told_all : (column : Column) (s : List ℕ) {from : ℕ} {told : Told} {old new : List ℕ} →
    let rows = length (parts_of s column) in
    Filling (text_at s column) part_max rows from old new (from + told.parts) told.bytes
    → chunk_rows (text_at s column) part_max rows (length old - told.bytes) (from + told.parts) ≡ 0 → ToldAs column s from told old new
told_all column s {from} {told} {old} f none =
    let parts : told.parts ≡ chunk_rows (text_at s column) part_max (length (parts_of s column)) (length old) from = omega (arith, filling_rows f none) in
    let bytes = filling_bytes f none in
    ((λ i. record { parts = parts i; bytes = bytes i }), (filling_list f none, counts _ _ (omega (arith, f.room, f.kept))))

pub overflow_add-told : goal.overflow_add-told
overflow_add-told c = omega (arith, (placed_more c.args.bytes.now c.args.column _ c.loop-out.place _ _ (sym c.next_part.ensures ∙ c.in-Some.is) c.loop-out.invariant.1).inside, parts_few c.args.bytes.now c.args.column (let few : c.args.column.rows < 2 ^ 32 = omega arith in few))

pub loop-out-smaller : goal.loop-out-smaller
loop-out-smaller c = omega (arith, (placed_more c.args.bytes.now c.args.column _ c.loop-out.place _ _ (sym c.next_part.ensures ∙ c.in-Some.is) c.loop-out.invariant.1).inside)

pub loop-out-preserved : goal.loop-out-preserved
loop-out-preserved c =
    let further = placed_more c.args.bytes.now c.args.column (c.args.from + c.loop-out.told.parts) c.loop-out.place _ _ (sym c.next_part.ensures ∙ c.in-Some.is) c.loop-out.invariant.1 in
    let here = ap (first_text c.args.column) further.here in
    let next : c.args.from + c.loop-out.told.parts + 1 ≡ c.args.from + (c.loop-out.told.parts + 1) = omega arith in
    rw (← next) (filling_more c.loop-out.invariant.0 further.inside (omega (arith, c.loop-out-test.true)) (rw here c.put_part.ensures.wrote) c.put_part.ensures.upper_bound, further.placed)

pub returns-after-loop-out : goal.returns-after-loop-out
returns-after-loop-out c = told_all _ _ c.loop-out.invariant.0 (chunk_full _ _ _ _ _ (omega (arith, c.loop-out-test.false, c.loop-out.invariant.0.kept)))

pub returns-in_default : goal.returns-in_default
returns-in_default c =
    told_all _ _ c.loop-out.invariant.0 (chunk_none _ _ _ _ _ (placed_done c.args.bytes.now c.args.column _ c.loop-out.place (sym c.next_part.ensures ∙ c.in_default.is) c.loop-out.invariant.1))
