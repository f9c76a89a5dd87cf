-- The buffer has room for the longest line; each chunk makes the way shorter.
use Rattle.std.proofs.Common.{◌≤◌, length}
use Rattle.text_explain.specs.Way.{hand_max}
use Rattle.text_explain.proofs.Ways.{left}
use Rattle.tool_explain.proofs.write_explanation.Given as goal

abbrev pub invariant-loop-at : goal.invariant-loop-at
invariant-loop-at g l = hand_max ≤ length l.out

abbrev pub decreases-loop-at : goal.decreases-loop-at
decreases-loop-at g l = left l.bytes l.at
