-- `stats_collector::collect` meets its contract. The loop's invariant: folding the rest of the stored numbers gives each statistic of them all.
-- Assumes nothing.
use mathlib.Core.Path.{sym, ◌∙◌}
use native.Mathlib.Omega.{arith}
use Rattle.format.proofs.StoredLists.{stored-length, stored_at}
use Rattle.format.specs.Typed.{stored_as}
use Rattle.stats_collector.proofs.Counting.{starts, more, empty, ends}
use Rattle.stats_collector.proofs.collect.Goals as goal

pub returns-then-n-eq0 : goal.returns-then-n-eq0
returns-then-n-eq0 c = empty (stored_as c.args.kind c.args.values.now) (stored-length c.args.kind c.args.values.now ∙ c.if-n-eq0.true)

pub loop-seen-init : goal.loop-seen-init
loop-seen-init c =
    starts _ _ _ (c.stored_of-first.ensures ∙ sym (stored_at c.args.kind c.args.values.now 0 (omega arith))) c.ready-g.ensures.0
    (rw (stored-length c.args.kind c.args.values.now) (omega arith))

pub run-seen-requires : goal.run-seen-requires
run-seen-requires c =
    record {
      ready = c.joined-g.ensures.1;
      rest = more c.loop-seen.invariant (rw (stored-length c.args.kind c.args.values.now) c.loop-seen-test.true)
          (c.stored_of-v.ensures ∙ sym (stored_at c.args.kind c.args.values.now c.loop-seen.seen.next c.loop-seen-test.true))
          c.joined-g.ensures.0 c.extended.ensures;
    }

pub loop-seen-smaller : goal.loop-seen-smaller
loop-seen-smaller c = omega (arith, c.extended.ensures.2, c.run-seen.ensures.1)

pub loop-seen-preserved : goal.loop-seen-preserved
loop-seen-preserved c = c.run-seen.ensures.0

pub returns : goal.returns
returns c = ends c.loop-seen.invariant (sym (stored-length c.args.kind c.args.values.now)) c.loop-seen-test.false c.larger.ensures
