-- `byte_stop::bodies::body` meets its contract: a codec that is neither 0 nor 1 is Blockwise.
-- Assumes nothing.
use Rattle.std.proofs.Common.{◌≡◌, arith}
use Rattle.byte_stop.proofs.Opens.{body-blockwise}
use Rattle.byte_stop.proofs.bodies.body.Goals as goal

pub returns-in_default : goal.returns-in_default
returns-in_default c =
    rw (body-blockwise c.args.code c.args.bytes.now c.args.head (λ (e : c.args.code ≡ 0). omega arith) (λ (e : c.args.code ≡ 1). omega arith)) c.blockwise.ensures
