-- `put_row` meets its contract: four fields, one behind the other; a row's number has at most ten digits.
-- Assumes nothing.
use Prim.Native.Nat.{◌≤◌}
use native.Mathlib.Omega.{arith}
use lib.ListN.{length}
use Rattle.format.specs.Listing.{ascii, named}
use Rattle.format.proofs.Stores.{wrote_then}
use Rattle.text.proofs.Decimals.{length-decimal}
use Rattle.text.proofs.Texts.{length-named}
use Rattle.text_blame_lines.specs.Bytes.{both_line}
use Rattle.text_blame_lines.proofs.lines.put_row.Goals as goal

pub put_named-number-requires : goal.put_named-number-requires
put_named-number-requires c = omega (arith, (let most : length (named (ascii "row ") c.args.row) ≤ 14 = omega (arith, length-named (ascii "row ") c.args.row, length-decimal 9 c.args.row (omega arith)) in most))

pub put_spaced-first-requires : goal.put_spaced-first-requires
put_spaced-first-requires c = omega (arith, (let most : length (named (ascii "row ") c.args.row) ≤ 14 = omega (arith, length-named (ascii "row ") c.args.row, length-decimal 9 c.args.row (omega arith)) in most))

pub put_spaced-second-requires : goal.put_spaced-second-requires
put_spaced-second-requires c = omega (arith, (let most : length (named (ascii "row ") c.args.row) ≤ 14 = omega (arith, length-named (ascii "row ") c.args.row, length-decimal 9 c.args.row (omega arith)) in most))

pub put_byte-requires : goal.put_byte-requires
put_byte-requires c = omega (arith, (let most : length (named (ascii "row ") c.args.row) ≤ 14 = omega (arith, length-named (ascii "row ") c.args.row, length-decimal 9 c.args.row (omega arith)) in most))

pub returns : goal.returns
unfolding both_line
returns c = record { wrote = wrote_then c.put_named-number.ensures (wrote_then c.put_spaced-first.ensures.wrote (wrote_then c.put_spaced-second.ensures.wrote c.put_byte.ensures)); upper_bound = omega (arith, (let most : length (named (ascii "row ") c.args.row) ≤ 14 = omega (arith, length-named (ascii "row ") c.args.row, length-decimal 9 c.args.row (omega arith)) in most)) }
