-- `blockwise_rows::reader::line_run` meets its contract: the line and the numbers that were unpacked are the rows' multiples, and their heights above the minimum where the gcd is 1.
-- Assumes nothing.
use mathlib.Core.Path.{ap, ◌∙◌}
use native.Mathlib.Omega.{arith}
use Rattle.format.specs.Runs.{read_run}
use Rattle.blockwise_rows.proofs.Rows.{multiples_read, heights_read}
use Rattle.blockwise_rows.proofs.reader.line_run.Goals as goal

pub returns-then-column-eq1 : goal.returns-then-column-eq1
returns-then-column-eq1 c =
    c.raise_by_line.ensures _ _ (heights_read c.args.column c.args.line _ _ _ _ _ _ c.split-from.ensures.1 c.requires.out_bound (omega (arith, c.get_run.auto.out)) c.get_run.ensures c.if-column-eq1.true c.requires.gcd_bound)
    ∙ ap (read_run _ _) (omega (arith, c.get_run.auto.out))

pub returns : goal.returns
returns c =
    c.scale_by_line.ensures _ _ (multiples_read c.args.column c.args.line _ _ _ _ _ _ c.split-from.ensures.1 c.requires.out_bound (omega (arith, c.get_run.auto.out)) c.get_run.ensures)
    ∙ ap (read_run _ _) (omega (arith, c.get_run.auto.out))
