-- `rows_at` meets its contract: a search with no block left answers what it says.
-- Assumes nothing.
use mathlib.Core.Path.{sym, ◌∙◌}
use native.Mathlib.Omega.{arith}
use Rattle.byte_owner.proofs.Searches.{search_ends}
use Rattle.table_asked.proofs.rows_at.Goals as goal

pub returns : goal.returns
returns c = sym (search_ends c.args.table.now c.args.column.rows c.loop-search.search (omega arith)) ∙ c.loop-search.invariant.1
