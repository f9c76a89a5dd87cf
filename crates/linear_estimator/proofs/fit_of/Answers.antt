-- `fit_of` meets its contract: line and width are defined by the spread around the first line.
-- Assumes nothing.
use Rattle.format.specs.Typed.{stored_as}
use Rattle.linear_estimator.proofs.Deviations.{low_high, fit_is}
use Rattle.linear_estimator.proofs.fit_of.Goals as goal

pub overflow_sub-spread : goal.overflow_sub-spread
overflow_sub-spread c = low_high c.spread_of-spread.ensures

pub returns : goal.returns
returns c =
    fit_is (stored_as c.args.kind c.args.values.now) c.first_line-first.ensures c.spread_of-spread.ensures
    c.add-raised.ensures c.sub.ensures c.compute_num_bits-bits.ensures
