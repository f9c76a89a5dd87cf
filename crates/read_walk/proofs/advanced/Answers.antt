-- `read_walk::advanced` meets its contract: the chunk was not the last, or all is stored, or the second pass begins, or nothing is to be stored.
-- Assumes nothing.
use native.Mathlib.Omega.{arith}
use Rattle.read_chunk.proofs.Chunks.{chunk_some}
use Rattle.read_walk.proofs.Walking.{ended, goes_on, all_stored, too_short, none_found, turns_over, falls_on, falls_over, falls_looking}
use Rattle.read_walk.proofs.advanced.Goals as goal

pub returns-then-at-w : goal.returns-then-at-w
returns-then-at-w c = record { walking = (λ k read window o before list values f run n room. record { phase = goes_on k read f _ c.requires.1 values run n c.if-at-w.true }); result_bound = falls_on _ c.requires.0 _ (chunk_some _ _ _ _ c.requires.0.to c.requires.1) }

pub returns-then-w : goal.returns-then-w
returns-then-w c = record { walking = (λ k read window o before list values f run n room. ended c.over.ensures.0 c.over.ensures.1 (all_stored k read f _ c.requires.1 values run n c.if-at-w.false c.if-w.true)); result_bound = falls_over _ c.requires.0 c.over.result c.over.ensures.0 }

pub returns-then-room-total : goal.returns-then-room-total
returns-then-room-total c = record { walking = (λ k read window o before list values f run n room. ended c.over-then-room-total.ensures.0 c.over-then-room-total.ensures.1 (too_short k read f _ c.requires.1 values run n c.if-at-w.false c.if-w.false (rw room at c.if-room-total.true))); result_bound = falls_over _ c.requires.0 c.over-then-room-total.result c.over-then-room-total.ensures.0 }

pub returns-then-total-eq0 : goal.returns-then-total-eq0
returns-then-total-eq0 c = record { walking = (λ k read window o before list values f run n room. ended c.over-then-total-eq0.ensures.0 c.over-then-total-eq0.ensures.1 (none_found k read f _ c.requires.1 values run n c.if-at-w.false c.if-w.false c.if-total-eq0.true)); result_bound = falls_over _ c.requires.0 c.over-then-total-eq0.result c.over-then-total-eq0.ensures.0 }

pub returns : goal.returns
returns c = record { walking = (λ k read window o before list values f run n room. record { phase = turns_over k read f _ c.requires.1 values run n c.if-at-w.false c.if-w.false (rw room at c.if-room-total.false) }); result_bound = falls_looking _ c.requires.0 c.if-w.false _ (omega (arith, c.requires.0.to)) }
