-- `read_lookup::trimmed` meets its contract.
-- Assumes nothing.
use native.Mathlib.Omega.{arith}
use Rattle.read_walk.proofs.Walking.{is_passing}
use Rattle.read_lookup.proofs.Rests.{trims}
use Rattle.read_lookup.proofs.trimmed.Goals as goal

pub returns-clause-by_index : goal.returns-clause-by_index
returns-clause-by_index c = λ test read window o before list room f. record {
  phase = trims test read (is_passing f c.requires.on) c.if-w-ne0.false c.is_single-storing.result c.if-w.false (λ s. ((c.is_single-storing.ensures s).0, omega (arith, room, (c.is_single-storing.ensures s).1)));
}
