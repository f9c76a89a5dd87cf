-- `table::run` meets its contract: a walk under way has a list of its rows' number, and where it is over, its answer is what the run decodes.
-- Assumes nothing.
use Rattle.read_walk.proofs.Walking.{is_passing, is_over, passing_run}
use Rattle.table.proofs.run.Goals as goal

pub step-w-requires : goal.step-w-requires
step-w-requires c =
    let p = is_passing c.loop-w.invariant c.loop-w-test.true in
    (p.going, p.based, p.inside, (passing_run p).0, (passing_run p).1)

pub returns : goal.returns
returns c = c.answer.ensures _ _ _ (is_over c.loop-w.invariant c.loop-w-test.false)
