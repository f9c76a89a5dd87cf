-- `bitpacker::pack` meets its contract. The loop's invariant: the packer has packed the values passed.
-- Assumes nothing.
use mathlib.Core.Path.{refl, ◌∙◌}
use native.Mathlib.Omega.{arith}
use Rattle.bitpacker.proofs.PackerLaws.{packing_starts, packing_writable, packing_more, packing_closable, packing_ends}
use Rattle.bitpacker.proofs.pack.Goals as goal

pub loop-value-init : goal.loop-value-init
loop-value-init c = packing_starts c.args.width c.args.values.now (c.new-packer.ensures c.args.out.now)

pub write-packer-requires : goal.write-packer-requires
write-packer-requires c = packing_writable c.requires refl c.loop-value.invariant (omega arith) refl

pub loop-value-preserved : goal.loop-value-preserved
loop-value-preserved c = packing_more c.requires refl c.loop-value.invariant (omega arith) refl c.write-packer.ensures c.write-packer.auto.out

pub close-requires : goal.close-requires
close-requires c = packing_closable c.requires refl c.loop-value.invariant (omega arith)

pub shape_of-out : goal.shape_of-out
shape_of-out c = c.close.auto.out ∙ c.loop-value.invariant.kept

pub returns : goal.returns
returns c = packing_ends c.requires refl c.loop-value.invariant (omega arith) c.close.ensures
