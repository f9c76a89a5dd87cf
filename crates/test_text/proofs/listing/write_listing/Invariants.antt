-- The way stands, and the buffer has room for the longest line; each chunk makes the way shorter.
use Rattle.std.proofs.Common.{◌≤◌, length}
use Rattle.text_list.specs.Way.{hand_max, Stands}
use Rattle.text_list.proofs.Ways.{left}
use Rattle.test_text.proofs.listing.write_listing.Given as goal

abbrev pub invariant-loop-at : goal.invariant-loop-at
invariant-loop-at g l = Stands l.bytes l.at × (hand_max ≤ length l.out)

abbrev pub decreases-loop-at : goal.decreases-loop-at
decreases-loop-at g l = left l.bytes l.at
