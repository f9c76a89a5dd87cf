use Rattle.format.specs.Reading.{row_in}
use Rattle.read_chunk.proofs.Stretches.{Storing}
use Rattle.read_chunk.proofs.taking.store_rows.Given as goal

abbrev pub invariant-loop-i : goal.invariant-loop-i
invariant-loop-i l = Storing (row_in l.column l.blocks l.block l.bytes) l.first l.size l.initial.value-items l.value-items l.i
