-- `bitpacker::put_eight` meets its contract: eight entries, one after another.
-- Assumes nothing.
use Prim.Native.Nat.{◌+◌}
use native.Mathlib.Omega.{arith}
use lib.Dec.{lit<}
use Rattle.bitpacker.proofs.RunLaws.{unpacked_to, part_less}
use Rattle.bitpacker.proofs.put_eight.Goals as goal

pub put_part-requires : goal.put_part-requires
put_part-requires c = (part_less c.requires.0 0 (lit< tt), omega (arith, c.requires.1))

pub put_part-requires-2 : goal.put_part-requires-2
put_part-requires-2 c = (part_less c.requires.0 1 (lit< tt), omega (arith, c.requires.1, c.put_part.auto))

pub put_part-requires-3 : goal.put_part-requires-3
put_part-requires-3 c = (part_less c.requires.0 2 (lit< tt), omega (arith, c.requires.1, c.put_part.auto, c.put_part-2.auto))

pub put_part-requires-4 : goal.put_part-requires-4
put_part-requires-4 c = (part_less c.requires.0 3 (lit< tt), omega (arith, c.requires.1, c.put_part.auto, c.put_part-2.auto, c.put_part-3.auto))

pub put_part-requires-5 : goal.put_part-requires-5
put_part-requires-5 c = (part_less c.requires.0 4 (lit< tt), omega (arith, c.requires.1, c.put_part.auto, c.put_part-2.auto, c.put_part-3.auto, c.put_part-4.auto))

pub put_part-requires-6 : goal.put_part-requires-6
put_part-requires-6 c = (part_less c.requires.0 5 (lit< tt), omega (arith, c.requires.1, c.put_part.auto, c.put_part-2.auto, c.put_part-3.auto, c.put_part-4.auto, c.put_part-5.auto))

pub put_part-requires-7 : goal.put_part-requires-7
put_part-requires-7 c = (part_less c.requires.0 6 (lit< tt), omega (arith, c.requires.1, c.put_part.auto, c.put_part-2.auto, c.put_part-3.auto, c.put_part-4.auto, c.put_part-5.auto, c.put_part-6.auto))

pub put_part-requires-8 : goal.put_part-requires-8
put_part-requires-8 c = (part_less c.requires.0 7 (lit< tt), omega (arith, c.requires.1, c.put_part.auto, c.put_part-2.auto, c.put_part-3.auto, c.put_part-4.auto, c.put_part-5.auto, c.put_part-6.auto, c.put_part-7.auto))

pub shape_of-out : goal.shape_of-out
shape_of-out c = omega (arith, c.put_part.auto, c.put_part-2.auto, c.put_part-3.auto, c.put_part-4.auto, c.put_part-5.auto, c.put_part-6.auto, c.put_part-7.auto, c.put_part-8.auto)

pub returns : goal.returns
returns c first place so =
    let i = c.args.i in
    let u0 = unpacked_to (i + 0) (omega arith) so in
    let u1 = unpacked_to (i + 1) (omega arith) (c.put_part.ensures first place u0) in
    let u2 = unpacked_to (i + 2) (omega arith) (c.put_part-2.ensures first place u1) in
    let u3 = unpacked_to (i + 3) (omega arith) (c.put_part-3.ensures first place u2) in
    let u4 = unpacked_to (i + 4) (omega arith) (c.put_part-4.ensures first place u3) in
    let u5 = unpacked_to (i + 5) (omega arith) (c.put_part-5.ensures first place u4) in
    let u6 = unpacked_to (i + 6) (omega arith) (c.put_part-6.ensures first place u5) in
    let u7 = unpacked_to (i + 7) (omega arith) (c.put_part-7.ensures first place u6) in
    unpacked_to (i + 8) (omega arith) (c.put_part-8.ensures first place u7)
