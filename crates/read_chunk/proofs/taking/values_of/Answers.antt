-- `values_of` meets its contract, by cases.
-- Assumes nothing.
use mathlib.Core.Path.{sym, ap}
use Rattle.read_chunk.specs.Stretch.{counted}
use Rattle.read_chunk.proofs.taking.values_of.Goals as goal

pub returns-in-Ok : goal.returns-in-Ok
returns-in-Ok c = ap counted (sym c.in-Ok.is)

pub returns-in-Err : goal.returns-in-Err
returns-in-Err c = ap counted (sym c.in-Err.is)
