-- Each turn leaves less of the file.
use Rattle.std.proofs.Common.{◌-◌}
use Rattle.test_text.proofs.show_all.Given as goal

abbrev pub decreases-loop-at : goal.decreases-loop-at
decreases-loop-at g l = l.size - l.at
