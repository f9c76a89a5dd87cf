-- `vint::write` meets its contract, by what the loop keeps.
-- Assumes nothing.
use Rattle.std.proofs.Common.{sym, arith}
use Rattle.format.proofs.VarintLoops.{writing_starts, writing_more, writing_room, writing_last, writing_end}
use Rattle.vint.proofs.write.Goals as goal

pub loop-rest-init : goal.loop-rest-init
loop-rest-init c = writing_starts _ _ _ (omega arith)

pub bounds-out-pos : goal.bounds-out-pos
bounds-out-pos c = omega (arith, writing_room c.loop-rest.invariant)

pub loop-rest-preserved : goal.loop-rest-preserved
loop-rest-preserved c = writing_more c.loop-rest.invariant c.loop-rest-test.true

pub bounds-out-pos-2 : goal.bounds-out-pos-2
bounds-out-pos-2 c = omega (arith, writing_room c.loop-rest.invariant)

pub returns : goal.returns
returns c = record { ends = sym (writing_end c.loop-rest.invariant c.loop-rest-test.false); list = sym (writing_last c.loop-rest.invariant c.loop-rest-test.false) }
