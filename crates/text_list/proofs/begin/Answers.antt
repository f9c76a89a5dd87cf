-- `begin` meets its contract: a refusal's line, or a column's first line, whose maximum has 64 bits as opening found.
-- Assumes nothing.
use Rattle.format.specs.Refusals.{answered_by}
use Rattle.format.proofs.Outcomes.{told}
use Rattle.text_column.proofs.Limits.{here_bounds}
use Rattle.text_list.proofs.begin.Goals as goal

pub column_line-requires : goal.column_line-requires
column_line-requires c = here_bounds _ _ _ (told answered_by c.open_plain-opened.ensures c.in-Ok.is)
