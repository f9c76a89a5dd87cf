-- `write_codec::put_blockwise` meets its contract: the length worked out is the body's, so the test is for the room that the column needs.
-- Assumes nothing.
use Prim.Native.Nat.{suc, ◌+◌}
use mathlib.Core.Path.{◌≡◌, ◌∙◌}
use mathlib.Core.List.{◌∷◌}
use native.Mathlib.Omega.{arith}
use lib.ListN.{length, length-set}
use Rattle.format.specs.Bodies.{blockwise}
use Rattle.format.proofs.Spellings.{head_few}
use Rattle.stats.proofs.Described.{sound_of, steps_length}
use Rattle.blockwise_estimator.specs.Writer.{FewBytes}
use Rattle.blockwise_estimator.proofs.Body.{above_of, takes_few}
use Rattle.format.specs.Typed.{stored_as}
use Rattle.format.proofs.StoredLists.{stored-length}
use Rattle.write_codec.proofs.Sizes.{needed_2}
use Rattle.write_codec.proofs.Serializing.{too_short, put_behind}
use Rattle.write_codec.proofs.writer.put_blockwise.Goals as goal

pub measure-sizes-requires : goal.measure-sizes-requires
measure-sizes-requires c = record { above = above_of c.requires; values_len_bound = rw (← stored-length c.args.kind c.args.values.now) c.requires.few }

pub body_len-needed-requires : goal.body_len-needed-requires
body_len-needed-requires c =
    let small : FewBytes c.measure-sizes.result = takes_few _ _ (steps_length c.requires) c.requires.few c.measure-sizes.ensures in
    record { sound = sound_of c.requires; few_bytes = small }

pub overflow_add-needed : goal.overflow_add-needed
overflow_add-needed c =
    let small : FewBytes c.measure-sizes.result = takes_few _ _ (steps_length c.requires) c.requires.few c.measure-sizes.ensures in
    omega (arith, c.body_len-needed.ensures, head_few c.args.stats, small.packs, small.fields)

pub returns-then-out-needed : goal.returns-then-out-needed
returns-then-out-needed c =
    let needed : 1 + c.body_len-needed.result ≡ suc (length (blockwise c.args.stats (stored_as c.args.kind c.args.values.now))) = needed_2 c.requires c.measure-sizes.ensures c.body_len-needed.ensures in
    too_short (2 ∷ blockwise c.args.stats (stored_as c.args.kind c.args.values.now)) _ _ needed c.if-out-needed.true

pub serialize-requires : goal.serialize-requires
serialize-requires c =
    let needed : 1 + c.body_len-needed.result ≡ suc (length (blockwise c.args.stats (stored_as c.args.kind c.args.values.now))) = needed_2 c.requires c.measure-sizes.ensures c.body_len-needed.ensures in
    record { describes = c.requires; takes = c.measure-sizes.ensures; values_in_bounds = simp length-set (omega (arith, needed)) }

pub shape_of-out : goal.shape_of-out
shape_of-out c = c.serialize.auto.out ∙ length-set c.args.out.now 0 _

pub returns : goal.returns
returns c =
    let needed : 1 + c.body_len-needed.result ≡ suc (length (blockwise c.args.stats (stored_as c.args.kind c.args.values.now))) = needed_2 c.requires c.measure-sizes.ensures c.body_len-needed.ensures in
    put_behind _ _ c.args.out.now _ needed c.if-out-needed.false c.serialize.ensures
