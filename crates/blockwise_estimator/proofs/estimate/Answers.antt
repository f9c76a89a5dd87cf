-- `estimate` meets its contract: by minimum 0 and gcd 1 the values are themselves, and their blocks' shares are their bytes in area and footer.
-- Assumes nothing.
use lib.ListN.{length-map}
use Rattle.stats.proofs.Described.{sound_of}
use Rattle.format.specs.Typed.{stored_as}
use Rattle.blockwise_estimator.specs.Writer.{normal, normals}
use Rattle.blockwise_estimator.proofs.Body.{takes_few, estimate_is, estimate_none}
use Rattle.blockwise_estimator.proofs.estimate.Goals as goal

pub body_len-whole-requires : goal.body_len-whole-requires
body_len-whole-requires c =
    let vs = stored_as c.args.kind c.args.values.now in
    record { sound = sound_of c.requires; few_bytes = takes_few (normals 0 1 vs) _ (length-map vs (normal 0 1)) c.requires.few c.measure-sizes.ensures }

pub returns-then-whole-less : goal.returns-then-whole-less
returns-then-whole-less c = estimate_none c.args.stats (stored_as c.args.kind c.args.values.now) _ _ _ c.measure-sizes.ensures c.body_len-whole.ensures c.saving_of-less.ensures c.if-whole-less.true

pub returns-else-whole-less : goal.returns-else-whole-less
returns-else-whole-less c = estimate_is c.args.stats (stored_as c.args.kind c.args.values.now) _ _ _ c.measure-sizes.ensures c.body_len-whole.ensures c.saving_of-less.ensures
