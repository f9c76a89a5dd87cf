-- `read_bounds::power` meets its contract.
-- Assumes nothing.
use Rattle.read_bounds.proofs.Lines.{power_is}
use Rattle.read_bounds.proofs.power.Goals as goal

pub returns : goal.returns
returns c = power_is _ c.requires
