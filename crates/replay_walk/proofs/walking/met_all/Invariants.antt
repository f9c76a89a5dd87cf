use Rattle.format.specs.Lookup.{within}
use Rattle.replay_walk.proofs.Meets.{Meeting}
use Rattle.replay_walk.proofs.walking.met_all.Given as goal

abbrev pub invariant-loop-i : goal.invariant-loop-i
invariant-loop-i l = Meeting l.head l.recording l.item (within l.item.low l.item.high) l.values l.row l.before l.n l.i
