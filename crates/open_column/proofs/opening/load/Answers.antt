-- `open_column::opening::load` meets its contract: a code that is neither 0 nor 1 is Blockwise's.
-- Assumes nothing.
use Rattle.std.proofs.Common.{◌≡◌, arith}
use Rattle.open_column.proofs.Opens.{body-blockwise}
use Rattle.open_column.proofs.opening.load.Goals as goal

pub returns-in_default : goal.returns-in_default
returns-in_default c =
    rw (body-blockwise c.args.code c.args.bytes.now c.args.head c.args.room (λ (e : c.args.code ≡ 0). omega arith) (λ (e : c.args.code ≡ 1). omega arith)) c.load-in_default.ensures
