-- The bytes from `at` on are gathered.
-- Assumes nothing.
use Rattle.std.proofs.Common.{◌≡◌, ◌≤◌, length, drop}
use Rattle.format.specs.Packing.{bytes_num}
use Rattle.blockwise_linear.proofs.reader.footer_len.Given as goal

abbrev pub invariant-loop-at : goal.invariant-loop-at
invariant-loop-at l = (l.end ≤ l.at) × ((l.at ≤ length l.bytes) × (l.long ≡ bytes_num (drop l.at l.bytes)))
