-- `replay_walk::walking::step` meets its contract: the buffer's front is as long as the chunk.
-- Assumes nothing.
use mathlib.Core.Path.{refl, sym, ◌∙◌}
use native.Mathlib.Omega.{arith}
use Rattle.format.proofs.Lists.{front_length}
use Rattle.read_row.proofs.Moving.{chunk-moved}
use Rattle.replay_walk.proofs.walking.step.Goals as goal

pub slice_bounds-step_through-end : goal.slice_bounds-step_through-end
slice_bounds-step_through-end c = sym (front_length _ _ refl (omega (arith, c.chunk_size-size.ensures)))

pub step_through-requires : goal.step_through-requires
step_through-requires c = (c.requires, front_length _ _ refl (omega (arith, c.chunk_size-size.ensures)) ∙ c.chunk_size-size.ensures ∙ chunk-moved _ _ _ c.column_row-at.ensures)
