-- `pack_residuals` meets its contract. The loop's invariant: the packer has packed what is left of the values passed.
-- Assumes nothing.
use mathlib.Core.Path.{◌∙◌}
use native.Mathlib.Omega.{arith}
use Rattle.format.specs.Line.{residuals}
use Rattle.format.specs.Typed.{stored_as}
use Rattle.bitpacker.proofs.PackerLaws.{packing_starts, packing_writable, packing_more, packing_closable, packing_ends}
use Rattle.linear_estimator.proofs.Body.{left_count, left_is}
use Rattle.linear_estimator.proofs.pack_residuals.Goals as goal

pub loop-i-init : goal.loop-i-init
loop-i-init c = packing_starts c.args.bits (residuals c.args.line (stored_as c.args.kind c.args.values.now)) (c.new-packer.ensures c.args.out.now)

pub write-packer-requires : goal.write-packer-requires
write-packer-requires c =
    packing_writable c.requires (left_count c.args.line c.args.kind c.args.values.now) c.loop-i.invariant (omega arith)
    (left_is c.args.line c.args.kind c.args.values.now c.loop-i.i (omega arith) c.stored_of-v.ensures c.residual.ensures)

pub loop-i-preserved : goal.loop-i-preserved
loop-i-preserved c =
    packing_more c.requires (left_count c.args.line c.args.kind c.args.values.now) c.loop-i.invariant (omega arith)
    (left_is c.args.line c.args.kind c.args.values.now c.loop-i.i (omega arith) c.stored_of-v.ensures c.residual.ensures)
    c.write-packer.ensures c.write-packer.auto.out

pub close-requires : goal.close-requires
close-requires c = packing_closable c.requires (left_count c.args.line c.args.kind c.args.values.now) c.loop-i.invariant (omega arith)

pub shape_of-out : goal.shape_of-out
shape_of-out c = c.close.auto.out ∙ c.loop-i.invariant.kept

pub returns : goal.returns
returns c = packing_ends c.requires (left_count c.args.line c.args.kind c.args.values.now) c.loop-i.invariant (omega arith) c.close.ensures
