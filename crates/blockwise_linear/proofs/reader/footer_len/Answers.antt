-- `blockwise_linear::reader::footer_len` meets its contract, by what the loop keeps.
-- Assumes nothing.
use Rattle.std.proofs.Common.{◌≡◌, sym, ap, List, ℕ, ◌-◌, ◌^◌, ◌≤◌, ◌<◌, length, drop, arith}
use native.Mathlib.Nat.{le_refl}
use lib.ListN.{drop_of_length-le}
use Rattle.format.specs.Packing.{bytes_num}
use Rattle.format.specs.Word.{AllBelow}
use Rattle.blockwise_linear.proofs.Footers.{length_step, length_small}
use Rattle.blockwise_linear.proofs.reader.footer_len.Goals as goal

-- what was gathered leaves room for a byte
small : (s : List ℕ) (at long : ℕ) → AllBelow 256 s → length s - 4 ≤ at → long ≡ bytes_num (drop at s) → long < 2 ^ 32
small s at long bytes late is = rw is (length_small s at bytes late)

pub loop-at-init : goal.loop-at-init
unfolding bytes_num
loop-at-init c =
    let s : List ℕ = c.args.bytes.now in
    (omega (arith, c.footer_end-end.ensures), (le_refl (length s), sym (ap bytes_num (drop_of_length-le s (le_refl (length s))))))

pub overflow_mul-long : goal.overflow_mul-long
overflow_mul-long c =
    omega (arith, small c.args.bytes.now c.loop-at.at c.loop-at.long (λ i h. (c.type_inv.bytes i).fits) (omega (arith, c.footer_end-end.ensures)) c.loop-at.invariant.1.1)

pub overflow_add-long : goal.overflow_add-long
overflow_add-long c =
    let few = small c.args.bytes.now c.loop-at.at c.loop-at.long (λ i h. (c.type_inv.bytes i).fits) (omega (arith, c.footer_end-end.ensures)) c.loop-at.invariant.1.1 in
    omega (arith, few, c.wide.ensures, c.type_inv.bytes (c.loop-at.at - 1))

pub loop-at-preserved : goal.loop-at-preserved
loop-at-preserved c =
    (omega arith, (omega arith, rw (c.wide.ensures, c.loop-at.invariant.1.1) (length_step c.args.bytes.now c.loop-at.at (omega arith) c.loop-at.invariant.1.0)))
