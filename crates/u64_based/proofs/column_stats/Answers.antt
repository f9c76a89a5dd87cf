-- `u64_based::column_stats` meets its contract: numbers are stored as they are.
-- Assumes nothing.
use mathlib.Core.Path.{ap, ◌∙◌}
use Rattle.format.specs.Stats.{stated}
use Rattle.format.proofs.StoredLists.{stored-numbers}
use Rattle.u64_based.proofs.column_stats.Goals as goal

pub returns : goal.returns
returns c = c.column_stats_as.ensures ∙ ap stated (stored-numbers _)
