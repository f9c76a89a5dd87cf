-- `write_codec::choice::sized_linear` meets its contract: its estimate is its size in the choice, from 512 values on.
-- Assumes nothing.
use native.Mathlib.Omega.{arith}
use Rattle.stats.proofs.Described.{sound_of}
use Rattle.linear_estimator.proofs.Body.{fit_most}
use Rattle.format.specs.Typed.{stored_as}
use Rattle.format.proofs.StoredLists.{stored-length}
use Rattle.write_codec.proofs.Sizes.{sized_1}
use Rattle.write_codec.proofs.choice.sized_linear.Goals as goal

pub estimate-size-requires : goal.estimate-size-requires
estimate-size-requires c = (sound_of c.requires, fit_most c.fit_of-fit.ensures)

pub returns : goal.returns
returns c = sized_1 c.args.stats (stored_as c.args.kind c.args.values.now) _ (rw (stored-length c.args.kind c.args.values.now) (omega arith)) c.fit_of-fit.ensures c.estimate-size.ensures
