use Prim.Native.Nat.{◌+◌, ◌-◌}
use lib.ListN.{length}
use Rattle.format.specs.Parts.{parts_of}
use Rattle.text.proofs.Filling.{Filling}
use Rattle.text_explain.specs.Explained.{part_max, text_at}
use Rattle.text_explain.specs.Chunk.{Placed}
use Rattle.text_explain.proofs.fill_lines.Given as goal

abbrev pub invariant-loop-out : goal.invariant-loop-out
invariant-loop-out l = Filling (text_at l.bytes l.column) part_max (length (parts_of l.bytes l.column)) l.from l.initial.out l.out (l.from + l.told.parts) l.told.bytes × Placed l.bytes l.column (l.from + l.told.parts) l.place

abbrev pub decreases-loop-out : goal.decreases-loop-out
decreases-loop-out l = length (parts_of l.bytes l.column) - (l.from + l.told.parts)
