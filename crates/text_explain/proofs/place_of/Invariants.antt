use Rattle.text_explain.specs.Chunk.{Placed}
use Rattle.text_explain.proofs.place_of.Given as goal

abbrev pub invariant-loop : goal.invariant-loop
invariant-loop l = Placed l.bytes l.column l.counter l.place
