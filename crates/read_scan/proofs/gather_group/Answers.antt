-- `read_scan::gather_group` meets its contract: values of which none lies in the range are passed over.
-- Assumes nothing.
use Rattle.read_scan.proofs.Scans.{gather_over}
use Rattle.read_scan.proofs.gather_group.Goals as goal

pub returns-then-is_bare : goal.returns-then-is_bare
returns-then-is_bare c = λ values f. gather_over _ 16 f c.requires.2 (c.is_bare.ensures c.if-is_bare.true)

pub returns : goal.returns
returns c = c.gather_part.ensures
