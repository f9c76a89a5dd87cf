-- `write_codec::put_linear` meets its contract: the estimate is the body's length, so the test is for the room that the column needs.
-- Assumes nothing.
use Prim.Native.Nat.{suc, ◌+◌}
use mathlib.Core.Path.{◌≡◌, ◌∙◌}
use mathlib.Core.List.{◌∷◌}
use native.Mathlib.Omega.{arith}
use lib.ListN.{length, length-set}
use Rattle.format.specs.Bodies.{linear}
use Rattle.bitpacker.proofs.PackerLaws.{packed_few}
use Rattle.format.proofs.Spellings.{head_few, line_few}
use Rattle.stats.proofs.Described.{sound_of}
use Rattle.linear_estimator.proofs.Body.{fit_most}
use Rattle.format.specs.Typed.{stored_as}
use Rattle.write_codec.proofs.Sizes.{needed_1}
use Rattle.write_codec.proofs.Serializing.{too_short, put_behind}
use borrow.Author.Rules.{rules}
use Rattle.write_codec.proofs.writer.put_linear.Goals as goal

pub estimate-needed-requires : goal.estimate-needed-requires
estimate-needed-requires c = (sound_of c.requires.describes, fit_most c.requires.fits)

pub overflow_add-needed : goal.overflow_add-needed
overflow_add-needed c = omega (arith, c.estimate-needed.ensures, head_few c.args.stats, line_few c.args.fit.line, packed_few c.args.fit.bits c.args.stats.rows (search rules) (fit_most c.requires.fits))

pub returns-then-out-needed : goal.returns-then-out-needed
returns-then-out-needed c =
    let needed : 1 + c.estimate-needed.result ≡ suc (length (linear c.args.stats (stored_as c.args.kind c.args.values.now))) = needed_1 c.requires.describes c.requires.fits c.estimate-needed.ensures in
    too_short (1 ∷ linear c.args.stats (stored_as c.args.kind c.args.values.now)) _ _ needed c.if-out-needed.true

pub serialize-requires : goal.serialize-requires
serialize-requires c =
    let needed : 1 + c.estimate-needed.result ≡ suc (length (linear c.args.stats (stored_as c.args.kind c.args.values.now))) = needed_1 c.requires.describes c.requires.fits c.estimate-needed.ensures in
    record { describes = c.requires.describes; fits = c.requires.fits; values_in_bounds = simp length-set (omega (arith, needed)) }

pub shape_of-out : goal.shape_of-out
shape_of-out c = c.serialize.auto.out ∙ length-set c.args.out.now 0 _

pub returns : goal.returns
returns c =
    let needed : 1 + c.estimate-needed.result ≡ suc (length (linear c.args.stats (stored_as c.args.kind c.args.values.now))) = needed_1 c.requires.describes c.requires.fits c.estimate-needed.ensures in
    put_behind _ _ c.args.out.now _ needed c.if-out-needed.false c.serialize.ensures
