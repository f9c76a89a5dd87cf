-- `pack_normalised` meets its contract. The loop's invariant: the packer has packed the values passed, normalised.
-- Assumes nothing.
use Prim.Native.Nat.{ℕ, ◌-◌, ◌/◌}
use mathlib.Core.Path.{◌∙◌, sym, ap}
use mathlib.Core.List.{map}
use native.Mathlib.Omega.{arith}
use Rattle.format.specs.Bodies.{normalised}
use Rattle.format.specs.Typed.{stored_as}
use Rattle.bitpacker.specs.Packer.{Packing}
use Rattle.bitpacker.proofs.PackerLaws.{packing_starts, packing_writable, packing_more, packing_closable, packing_ends}
use Rattle.stats.proofs.Described.{sound_of, stored_above, stored_step, stored_count}
use Rattle.bitpacked_estimator.proofs.pack_normalised.Goals as goal

pub loop-value-init : goal.loop-value-init
loop-value-init c = rw c.ready-gcd.ensures.0 (packing_starts c.args.bits (map (normalised c.args.stats) (stored_as c.args.kind c.args.values.now)) (c.new-packer.ensures c.args.out.now))

pub overflow_sub-v : goal.overflow_sub-v
overflow_sub-v c = stored_above c.args.kind c.args.values.now c.requires.describes c.loop-value.value-index (omega arith) c.stored_of-v.ensures

pub quotient-requires : goal.quotient-requires
quotient-requires c = (c.ready-gcd.ensures.1, rw c.ready-gcd.ensures.0 (sound_of c.requires.describes).some)

pub write-packer-requires : goal.write-packer-requires
write-packer-requires c =
    let packs : (Packing c.args.bits (map (normalised c.args.stats) (stored_as c.args.kind c.args.values.now)) c.args.out.now c.loop-value.value-index c.loop-value.packer c.loop-value.out) = rw c.ready-gcd.ensures.0 at c.loop-value.invariant in
    rw (c.quotient.ensures, c.ready-gcd.ensures.0)
    (packing_writable c.requires.packable (stored_count c.args.kind c.args.values.now c.requires.describes) packs (omega arith)
    (stored_step c.args.kind c.args.values.now c.requires.describes c.loop-value.value-index (omega arith) c.stored_of-v.ensures))

pub loop-value-preserved : goal.loop-value-preserved
loop-value-preserved c =
    let packs : (Packing c.args.bits (map (normalised c.args.stats) (stored_as c.args.kind c.args.values.now)) c.args.out.now c.loop-value.value-index c.loop-value.packer c.loop-value.out) = rw c.ready-gcd.ensures.0 at c.loop-value.invariant in
    let by = c.ready-gcd.ensures.0 in
    rw by
    (packing_more c.requires.packable (stored_count c.args.kind c.args.values.now c.requires.describes) packs (omega arith)
    (stored_step c.args.kind c.args.values.now c.requires.describes c.loop-value.value-index (omega arith) c.stored_of-v.ensures)
    (rw (sym (c.quotient.ensures ∙ ap (λ (g : ℕ). (c.stored_of-v.result - c.args.stats.minimum) / g) by)) c.write-packer.ensures) c.write-packer.auto.out)

pub close-requires : goal.close-requires
close-requires c =
    let packs : (Packing c.args.bits (map (normalised c.args.stats) (stored_as c.args.kind c.args.values.now)) c.args.out.now c.loop-value.value-index c.loop-value.packer c.loop-value.out) = rw c.ready-gcd.ensures.0 at c.loop-value.invariant in
    packing_closable c.requires.packable (stored_count c.args.kind c.args.values.now c.requires.describes) packs (omega arith)

pub shape_of-out : goal.shape_of-out
shape_of-out c = c.close.auto.out ∙ c.loop-value.invariant.kept

pub returns : goal.returns
returns c =
    let packs : (Packing c.args.bits (map (normalised c.args.stats) (stored_as c.args.kind c.args.values.now)) c.args.out.now c.loop-value.value-index c.loop-value.packer c.loop-value.out) = rw c.ready-gcd.ensures.0 at c.loop-value.invariant in
    packing_ends c.requires.packable (stored_count c.args.kind c.args.values.now c.requires.describes) packs (omega arith) c.close.ensures
