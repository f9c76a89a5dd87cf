-- The way stands, and the buffer has room for the longest line; each chunk makes the way shorter.
use Rattle.std.proofs.Common.{◌≤◌, length}
use Rattle.text_compare.specs.Way.{hand_max, Stands}
use Rattle.text_compare.proofs.Ways.{left as left_of}
use Rattle.test_text.proofs.comparing.write_rows.Given as goal

abbrev pub invariant-loop-at : goal.invariant-loop-at
invariant-loop-at g l = Stands l.left l.right l.at × (hand_max ≤ length l.out)

abbrev pub decreases-loop-at : goal.decreases-loop-at
decreases-loop-at g l = left_of l.left l.right l.at
