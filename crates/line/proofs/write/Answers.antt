-- `line::write` meets its contract: two fields, the second written behind the first.
-- Assumes nothing.
use Rattle.std.proofs.Common.{arith}
use Rattle.format.specs.Line.{spell_line}
use Rattle.format.proofs.Stores.{wrote_then}
use Rattle.format.proofs.Spellings.{line_length_lem}
use Rattle.line.proofs.write.Goals as goal

pub write-next-requires : goal.write-next-requires
write-next-requires c = omega (arith, line_length_lem c.args.l)

pub write-requires : goal.write-requires
write-requires c = omega (arith, line_length_lem c.args.l)

pub returns : goal.returns
unfolding spell_line
returns c = wrote_then c.write-next.ensures c.write.ensures
