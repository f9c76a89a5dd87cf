-- `read_scan::beyond` meets its contract, by the top bits of two numbers.
-- Assumes nothing.
use native.Mathlib.Omega.{arith}
use Rattle.read_scan.proofs.Ranges.{top_tells}
use Rattle.read_scan.proofs.beyond.Goals as goal

pub returns : goal.returns
returns c = top_tells c.args.low c.args.span c.args.value _ _ c.requires.0 c.requires.1 (omega arith) c.sub-above.ensures c.sub.ensures
