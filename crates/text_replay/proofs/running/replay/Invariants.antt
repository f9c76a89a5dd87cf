use Rattle.replay_walk.specs.Walking.{left}
use Rattle.text_replay.proofs.Runs.{Running}
use Rattle.text_replay.proofs.running.replay.Given as goal

abbrev pub invariant-loop-w : goal.invariant-loop-w
invariant-loop-w l = Running l.bytes l.column l.recording l.own l.w

abbrev pub decreases-loop-w : goal.decreases-loop-w
decreases-loop-w l = left l.w
