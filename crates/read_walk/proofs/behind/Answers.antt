-- `read_walk::behind` meets its contract: the chunk is refused, or behind it the walk goes on.
-- Assumes nothing.
use Rattle.read_chunk.proofs.Chunks.{whole_run, refused_run}
use Rattle.read_walk.proofs.Walking.{ended, refuses, falls_over}
use Rattle.read_walk.proofs.behind.Goals as goal

pub returns-in-Ok : goal.returns-in-Ok
returns-in-Ok c =
    let told = c.in-Ok.is in
    record { walking = (λ k read window o before list values f d n room. rw told (c.advanced.ensures.walking k read window o before list values f (whole_run d told) n room)); result_bound = c.advanced.ensures.result_bound }

pub returns-in-Err : goal.returns-in-Err
returns-in-Err c =
    let told = c.in-Err.is in
    record { walking = (λ k read window o before list values f d n room. rw told (ended c.over.ensures.0 c.over.ensures.1 (refuses k read f _ c.requires.1 c.in-Err.why (refused_run d told)))); result_bound = falls_over _ c.requires.0 c.over.result c.over.ensures.0 }
