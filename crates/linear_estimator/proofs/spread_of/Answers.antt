-- `spread_of` meets its contract. The loop's invariant: the spread so far, and that of the rest, is that of all.
-- Assumes nothing.
use mathlib.Core.Path.{ap, ◌∙◌}
use Rattle.format.proofs.StoredLists.{stored-length, stored_is, stored_there}
use Rattle.linear_estimator.proofs.Deviations.{deviation_at, spreading_starts, spreading_next, spreading_ends}
use borrow.Author.Rules.{rules}
use Rattle.linear_estimator.proofs.spread_of.Goals as goal

pub loop-i-init : goal.loop-i-init
loop-i-init c = spreading_starts _ _ (stored_there c.args.kind c.args.values.now 0 c.requires)

pub loop-i-preserved : goal.loop-i-preserved
loop-i-preserved c =
    let is = stored_is c.args.kind c.args.values.now c.loop-i.i (search rules) c.stored_of-v.ensures in
    spreading_next c.loop-i.invariant (stored_there c.args.kind c.args.values.now c.loop-i.i (search rules))
    (c.deviation-d.ensures ∙ ap (deviation_at c.args.line c.loop-i.i) is) c.lesser-low.ensures c.larger-high.ensures

pub returns : goal.returns
returns c = spreading_ends c.loop-i.invariant (rw (stored-length c.args.kind c.args.values.now) (search rules))
