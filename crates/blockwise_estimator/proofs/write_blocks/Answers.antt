-- `write_blocks` meets its contract: what was written at the two frontiers, with the areas and entries to come stored behind them, is all areas and all entries.
-- Assumes nothing.
use mathlib.Core.Path.{sym, ◌∙◌}
use native.Mathlib.Nat.{zero-add}
use native.Mathlib.Omega.{arith}
use Rattle.format.proofs.StoredLists.{stored-length}
use Rattle.blockwise_estimator.proofs.Walks.{placing_room, placing_next, placing_ends}
use borrow.Author.Rules.{rules}
use Rattle.blockwise_estimator.proofs.write_blocks.Goals as goal

pub part_write-fronts-requires : goal.part_write-fronts-requires
part_write-fronts-requires c = record { part = record { above = c.requires.above; inside = omega (arith, stored-length c.args.kind c.args.values.now); few = omega arith }; places = placing_room c.loop-at.invariant (search rules) c.part_size-size.ensures c.requires.values_in_bounds }

pub loop-at-preserved : goal.loop-at-preserved
loop-at-preserved c = placing_next c.loop-at.invariant (search rules) c.part_size-size.ensures c.part_write-fronts.ensures

pub returns : goal.returns
returns c = placing_ends c.loop-at.invariant (search rules) (c.requires.mid_value ∙ sym (zero-add _))

-- the last block
pub returns-2 : goal.returns-2
returns-2 c = placing_ends (placing_next c.loop-at.invariant (search rules) c.part_size-size.ensures c.part_write-fronts.ensures) (omega arith) (c.requires.mid_value ∙ sym (zero-add _))
