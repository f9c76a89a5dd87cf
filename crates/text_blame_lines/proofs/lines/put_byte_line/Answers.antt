-- `put_byte_line` meets its contract: four fields, one behind the other.
-- Assumes nothing.
use Prim.Native.Nat.{◌≤◌}
use native.Mathlib.Omega.{arith}
use lib.ListN.{length}
use Rattle.format.specs.Listing.{ascii, named}
use Rattle.format.proofs.Stores.{wrote_then}
use Rattle.text.proofs.Texts.{named_most}
use Rattle.text_blame_lines.specs.Bytes.{byte_line}
use Rattle.text_blame_lines.proofs.lines.put_byte_line.Goals as goal

pub put_named-number-requires : goal.put_named-number-requires
put_named-number-requires c = omega (arith, (let most : length (named (ascii "byte ") c.args.offset) ≤ 25 = named_most _ _ (omega arith) in most))

pub put_byte-space-requires : goal.put_byte-space-requires
put_byte-space-requires c = omega (arith, (let most : length (named (ascii "byte ") c.args.offset) ≤ 25 = named_most _ _ (omega arith) in most))

pub put_part-words-requires : goal.put_part-words-requires
put_part-words-requires c = omega (arith, (let most : length (named (ascii "byte ") c.args.offset) ≤ 25 = named_most _ _ (omega arith) in most))

pub put_byte-requires : goal.put_byte-requires
put_byte-requires c = omega (arith, c.put_part-words.ensures.upper_bound, (let most : length (named (ascii "byte ") c.args.offset) ≤ 25 = named_most _ _ (omega arith) in most))

pub returns : goal.returns
unfolding byte_line
returns c = record { wrote = wrote_then c.put_named-number.ensures (wrote_then c.put_byte-space.ensures (wrote_then c.put_part-words.ensures.wrote c.put_byte.ensures)); upper_bound = omega (arith, c.put_part-words.ensures.upper_bound, (let most : length (named (ascii "byte ") c.args.offset) ≤ 25 = named_most _ _ (omega arith) in most)) }
