use Rattle.format.specs.Bodies.{block_count}
use Rattle.blockwise_linear.specs.Reader.{up_to_length}
use Rattle.blockwise_linear.proofs.Lasts.{LastSoFar}
use Rattle.blockwise_linear.proofs.reader.footer_last.Given as goal

abbrev pub invariant-loop : goal.invariant-loop
invariant-loop l = LastSoFar (up_to_length l.bytes) (block_count l.rows) l.start l.counter l.bits l.at
