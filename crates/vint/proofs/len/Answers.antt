-- `vint::len` meets its contract: it goes as the writer does, over no output at all.
-- Assumes nothing.
use Rattle.std.proofs.Common.{arith}
use Rattle.format.proofs.VarintLoops.{writing_starts, writing_more, writing_room, writing_end}
use Rattle.format.proofs.Varints.{spell_ten}
use Rattle.vint.proofs.len.Goals as goal

pub loop-rest-init : goal.loop-rest-init
loop-rest-init c = writing_starts _ _ _ (omega arith)

pub overflow_add-n : goal.overflow_add-n
overflow_add-n c = omega (arith, writing_room c.loop-rest.invariant, spell_ten c.args.v)

pub loop-rest-preserved : goal.loop-rest-preserved
loop-rest-preserved c = writing_more c.loop-rest.invariant c.loop-rest-test.true

pub overflow_add-result : goal.overflow_add-result
overflow_add-result c = omega (arith, writing_room c.loop-rest.invariant, spell_ten c.args.v)

pub returns : goal.returns
returns c = omega (arith, writing_end c.loop-rest.invariant c.loop-rest-test.false)
