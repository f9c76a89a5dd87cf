use Rattle.replay_walk.proofs.Walks.{Skipping}
use Rattle.replay_walk.proofs.walking.go_on.Given as goal

abbrev pub invariant-loop-i : goal.invariant-loop-i
invariant-loop-i l = Skipping l.rows l.recording l.head l.k l.i
