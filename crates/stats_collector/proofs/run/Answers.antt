-- `stats_collector::run` meets its contract. The loop's invariant: folding the rest, with the same gcd, gives each statistic of all.
-- Assumes nothing.
use Prim.Native.Nat.{◌<◌}
use mathlib.Core.Path.{refl}
use native.Mathlib.Omega.{arith}
use lib.ListN.{length}
use Rattle.format.proofs.StoredLists.{stored_is, stored_there}
use Rattle.stats_collector.proofs.Counting.{more}
use Rattle.stats_collector.proofs.run.Goals as goal

pub loop-i-init : goal.loop-i-init
loop-i-init c = (c.requires.rest, refl)

pub loop-i-preserved : goal.loop-i-preserved
loop-i-preserved c =
    let at = c.loop-i.seen.next in
    let inside : at < length c.args.values.now = omega arith in (
      more c.loop-i.invariant.0 (stored_there c.args.kind c.args.values.now at inside)
          (stored_is c.args.kind c.args.values.now at inside (rw c.loop-i.invariant.1 c.stored_of-v.ensures))
          (c.stays.ensures c.if-not-stays.false) c.extended-seen.ensures,
      omega (arith, c.extended-seen.ensures.2),
    )
