-- `replay_walk::walking::go_on` meets its contract: records without rows are passed by while nothing is recorded of them.
-- Assumes nothing.
use native.Mathlib.Omega.{arith}
use borrow.Author.Rules.{rules}
use Rattle.replay_walk.proofs.Walks.{at_hand, hand_left, skip_differs, skip_more, all_done, ended, left_over}
use Rattle.replay_walk.proofs.walking.go_on.Goals as goal

pub returns-then-item-end : goal.returns-then-item-end
returns-then-item-end c =
    let l = c.loop-i.invariant in
    let less = c.loop-i-test.true in
    record { by_index = at_hand l less c.record_at-item.ensures c.cut-end.ensures c.if-item-end.true; result_bound = hand_left l less c.record_at-item.ensures c.cut-end.ensures (search rules) }

pub returns-then-item-gt0 : goal.returns-then-item-gt0
returns-then-item-gt0 c =
    let l = c.loop-i.invariant in
    record { by_index = (λ read f. ended read _ _ _ c.over.ensures.0 c.over.ensures.1 (skip_differs l c.loop-i-test.true c.record_at-item.ensures c.cut-end.ensures c.if-item-end.false c.if-item-gt0.true read f)); result_bound = left_over c.over.result c.over.ensures.0 _ (omega arith) }

pub loop-i-preserved : goal.loop-i-preserved
loop-i-preserved c = skip_more c.loop-i.invariant c.loop-i-test.true c.record_at-item.ensures c.cut-end.ensures c.if-item-end.false c.if-item-gt0.false

pub returns : goal.returns
returns c = record { by_index = (λ read f. ended read _ _ _ c.over-2.ensures.0 c.over-2.ensures.1 (all_done read _ _ _ (c.loop-i.invariant.rest read f) c.loop-i-test.false)); result_bound = left_over c.over-2.result c.over-2.ensures.0 _ (omega arith) }
