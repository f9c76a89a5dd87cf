-- `raising::scale_by_line` meets its contract: what a line adds to numbers are the multiples that are scaled.
-- Assumes nothing.
use mathlib.Core.Path.{ap, ◌∙◌}
use native.Mathlib.Omega.{arith}
use Rattle.format.specs.Runs.{read_run}
use Rattle.format.specs.Reading.{scaled}
use Rattle.raising.proofs.Filling.{by_line}
use Rattle.raising.proofs.scale_by_line.Goals as goal

pub returns : goal.returns
returns c = λ read first by. c.scale.ensures read first (by_line (scaled c.args.column) c.args.line c.args.from _ _ (omega (arith, c.lift_by_line.auto)) c.lift_by_line.ensures.0 by) ∙ ap (read_run read first) (omega (arith, c.lift_by_line.auto))
