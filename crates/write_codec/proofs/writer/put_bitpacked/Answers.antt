-- `write_codec::put_bitpacked` meets its contract: the estimate is the body's length, so the test is for the room that the column needs.
-- Assumes nothing.
use Prim.Native.Nat.{suc, ◌+◌}
use mathlib.Core.Path.{◌≡◌, ◌∙◌}
use mathlib.Core.List.{◌∷◌}
use native.Mathlib.Omega.{arith}
use lib.ListN.{length, length-set}
use Rattle.format.specs.Packing.{width}
use Rattle.format.specs.Stats.{count_of}
use Rattle.format.specs.Bodies.{bitpacked}
use Rattle.format.proofs.Widths.{width_most}
use Rattle.bitpacker.proofs.PackerLaws.{packed_few}
use Rattle.format.proofs.Spellings.{head_few}
use Rattle.stats.proofs.Described.{sound_of}
use Rattle.format.specs.Typed.{stored_as}
use Rattle.write_codec.proofs.Sizes.{needed_0}
use Rattle.write_codec.proofs.Serializing.{too_short, put_behind}
use borrow.Author.Rules.{rules}
use Rattle.write_codec.proofs.writer.put_bitpacked.Goals as goal

pub estimate-needed-requires : goal.estimate-needed-requires
estimate-needed-requires c = sound_of c.requires

pub overflow_add-needed : goal.overflow_add-needed
overflow_add-needed c =
    let s = c.args.stats in
    omega (arith, c.estimate-needed.ensures, head_few s, packed_few (width (count_of s)) s.rows (search rules) (width_most (count_of s)))

pub returns-then-out-needed : goal.returns-then-out-needed
returns-then-out-needed c =
    let needed : 1 + c.estimate-needed.result ≡ suc (length (bitpacked c.args.stats (stored_as c.args.kind c.args.values.now))) = needed_0 c.requires c.estimate-needed.ensures in
    too_short (0 ∷ bitpacked c.args.stats (stored_as c.args.kind c.args.values.now)) _ _ needed c.if-out-needed.true

pub serialize-requires : goal.serialize-requires
serialize-requires c =
    let needed : 1 + c.estimate-needed.result ≡ suc (length (bitpacked c.args.stats (stored_as c.args.kind c.args.values.now))) = needed_0 c.requires c.estimate-needed.ensures in
    record { describes = c.requires; values_in_bounds = simp length-set (omega (arith, needed)) }

pub shape_of-out : goal.shape_of-out
shape_of-out c = c.serialize.auto.out ∙ length-set c.args.out.now 0 _

pub returns : goal.returns
returns c =
    let needed : 1 + c.estimate-needed.result ≡ suc (length (bitpacked c.args.stats (stored_as c.args.kind c.args.values.now))) = needed_0 c.requires c.estimate-needed.ensures in
    put_behind _ _ c.args.out.now _ needed c.if-out-needed.false c.serialize.ensures
