-- `read_run::decode_there` meets its contract: a part that comes back as long as it was is stored.
-- Assumes nothing.
use mathlib.Core.Path.{refl}
use native.Mathlib.Omega.{arith}
use Rattle.read_run.proofs.Straight.{placed}
use Rattle.read_run.proofs.decode_there.Goals as goal

pub returns : goal.returns
returns c = placed _ _ _ _ _ _ _ _ refl c.requires.1 (omega (arith, c.decode.auto.out)) c.decode.ensures
