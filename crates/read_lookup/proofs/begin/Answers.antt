-- `read_lookup::begin` meets its contract.
-- Assumes nothing.
use mathlib.Core.Path.{refl}
use Rattle.read_lookup.proofs.Beginnings.{begins_lookup}
use Rattle.read_lookup.proofs.begin.Goals as goal

pub returns : goal.returns
returns c = λ read test list. begins_lookup read test _ _ _ _ list _ c.cut-last.ensures refl
