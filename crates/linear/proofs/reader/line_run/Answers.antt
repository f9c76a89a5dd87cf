-- `linear::reader::line_run` meets its contract: the line and the numbers that were unpacked lie their heights above the minimum.
-- Assumes nothing.
use mathlib.Core.Path.{ap, ◌∙◌}
use native.Mathlib.Omega.{arith}
use Rattle.format.specs.Runs.{read_run}
use Rattle.linear.proofs.Rows.{heights_read}
use Rattle.linear.proofs.reader.line_run.Goals as goal

pub returns : goal.returns
returns c =
    c.raise_by_line.ensures _ _ (heights_read c.args.line _ _ _ _ _ _ _ c.requires.bits_value.1 (omega arith) (omega (arith, c.get_run.auto.out)) c.get_run.ensures)
    ∙ ap (read_run _ _) (omega (arith, c.get_run.auto.out))
