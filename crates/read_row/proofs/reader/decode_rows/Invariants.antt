use Rattle.format.specs.Reading.{row_in}
use Rattle.format.proofs.Runs.{Decoding}
use Rattle.read_row.proofs.reader.decode_rows.Given as goal

abbrev pub invariant-loop-i : goal.invariant-loop-i
invariant-loop-i l = Decoding (row_in l.column l.blocks l.block l.bytes) l.first.0 l.out l.i
