-- What is left of the parts holds the offset, if any part does.
-- Assumes nothing.
use Rattle.std.proofs.Common.{◌-◌, length}
use Rattle.format.specs.Parts.{names}
use Rattle.byte_part.proofs.Seeking.{Seeking}
use Rattle.byte_part.proofs.seek.Given as goal

abbrev pub invariant-loop-part : goal.invariant-loop-part
invariant-loop-part l = Seeking l.bytes l.column l.offset l.place

abbrev pub decreases-loop-part : goal.decreases-loop-part
decreases-loop-part l = length (names l.column.codec l.column.rows) - l.place.number
