-- `read_lookup::sweeping::sweep_there` meets its contract: a part that comes back as long as it was.
-- Assumes nothing.
use mathlib.Core.Path.{refl}
use native.Mathlib.Omega.{arith}
use Rattle.read_lookup.proofs.Sweeps.{in_part}
use Rattle.read_lookup.proofs.sweeping.sweep_there.Goals as goal

pub returns : goal.returns
returns c = in_part _ _ _ _ _ _ _ _ _ refl c.requires.1 (omega (arith, c.sweep_chunk.auto.part)) c.sweep_chunk.ensures
