-- `byte_stop::stop` meets its contract: the code byte, the head and the body decide in the rule's order.
-- Assumes nothing.
use Rattle.std.proofs.Common.{arith}
use Rattle.byte_stop.proofs.Opens.{stop_none, stop_unknown, reach-known}
use Rattle.byte_stop.proofs.stop.Goals as goal

pub returns-then-bytes-eq0 : goal.returns-then-bytes-eq0
returns-then-bytes-eq0 c = stop_none _ c.if-bytes-eq0.true

pub returns-then-code-gt2 : goal.returns-then-code-gt2
returns-then-code-gt2 c = stop_unknown c.args.bytes.now (omega arith) c.if-code-gt2.true

pub returns-in-Ok : goal.returns-in-Ok
returns-in-Ok c = rw (reach-known c.args.bytes.now (omega arith) c.if-code-gt2.false, ← c.in-Ok.ensures) c.body.ensures

pub returns-in-Err : goal.returns-in-Err
returns-in-Err c = rw (reach-known c.args.bytes.now (omega arith) c.if-code-gt2.false, ← c.in-Err.ensures)
