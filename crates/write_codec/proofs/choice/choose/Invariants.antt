use Rattle.format.specs.Typed.{stored_as}
use Rattle.write_codec.proofs.Choosing.{Choosing}
use Rattle.write_codec.proofs.choice.choose.Given as goal

abbrev pub invariant-loop-code : goal.invariant-loop-code
invariant-loop-code l = Choosing l.stats (stored_as l.kind l.values) l.codecs l.walk l.code-index
