-- `line::eval` meets its contract: it is `line_at`, step by step.
-- Assumes nothing.
use Rattle.format.specs.Line.{line_at}
use Rattle.line.proofs.eval.Goals as goal

pub returns : goal.returns
unfolding line_at
returns c = cc
