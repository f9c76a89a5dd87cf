-- `bitpacked::reader::scale_run` meets its contract: the numbers that were unpacked are the rows' multiples, and their heights above the minimum in a plain column.
-- Assumes nothing.
use mathlib.Core.Path.{ap, ◌∙◌}
use native.Mathlib.Omega.{arith}
use Rattle.format.specs.Runs.{read_run}
use Rattle.bitpacked.proofs.Rows.{multiples_read, heights_read}
use Rattle.bitpacked.proofs.reader.scale_run.Goals as goal

pub returns-then-is_plain : goal.returns-then-is_plain
returns-then-is_plain c =
    c.raise.ensures _ _ (heights_read c.args.column _ _ _ _ _ (omega (arith, c.get_run.auto.out)) c.get_run.ensures (c.is_plain.ensures c.if-is_plain.true) c.requires.gcd_bound)
    ∙ ap (read_run _ _) (omega (arith, c.get_run.auto.out))

pub returns : goal.returns
returns c =
    c.scale.ensures _ _ (multiples_read c.args.column _ _ _ _ _ (omega (arith, c.get_run.auto.out)) c.get_run.ensures)
    ∙ ap (read_run _ _) (omega (arith, c.get_run.auto.out))
