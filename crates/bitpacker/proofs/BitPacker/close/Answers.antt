-- `bitpacker::BitPacker::close` meets its contract: the held bits fill the bytes that are left of the packed form.
-- Assumes nothing.
use mathlib.Core.Path.{◌∙◌}
use native.Mathlib.Omega.{arith}
use Rattle.bitpacker.proofs.PackerLaws.{bits_so_far, held_short, packs_done}
use Rattle.bitpacker.proofs.BitPacker.close.Goals as goal

pub put-requires : goal.put-requires
put-requires c = omega (arith, bits_so_far c.requires.packs, held_short c.requires.packs)

pub returns : goal.returns
returns c bits before s = c.put.ensures ∙ packs_done s
