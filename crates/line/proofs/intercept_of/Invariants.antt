-- Folding the rest of the offsets gives the intercept.
-- Assumes nothing.
use Rattle.std.proofs.Common.{◌≡◌, drop}
use Rattle.format.specs.Stats.{fold_from}
use Rattle.format.specs.Line.{through, residuals, nearer, intercept_of}
use Rattle.line.proofs.intercept_of.Given as goal

abbrev pub invariant-loop-i : goal.invariant-loop-i
invariant-loop-i l = fold_from (nearer l.base) l.best (drop l.i (residuals (through l.slope) l.ys)) ≡ intercept_of l.slope l.ys
