-- `put_place` meets its contract: two numbers of at most twenty digits, and two spaces.
-- Assumes nothing.
use Prim.Native.Nat.{◌≤◌}
use native.Mathlib.Omega.{arith}
use lib.ListN.{length}
use Rattle.format.specs.Listing.{ascii, decimal, named}
use Rattle.format.proofs.Stores.{wrote_then}
use Rattle.text.proofs.Decimals.{length-decimal}
use Rattle.text.proofs.Texts.{named_most}
use Rattle.text_explain.specs.Explained.{place_text}
use Rattle.text_explain.proofs.lines.put_place.Goals as goal

pub put_decimal-number-requires : goal.put_decimal-number-requires
put_decimal-number-requires c = omega (arith, (let short-here : (length (decimal c.args.first) ≤ 20) × (length (named (ascii " ") c.args.bytes) ≤ 21) = (length-decimal 19 c.args.first (omega arith), named_most (ascii " ") c.args.bytes (omega arith)) in short-here))

pub put_named-long-requires : goal.put_named-long-requires
put_named-long-requires c = omega (arith, (let short-here : (length (decimal c.args.first) ≤ 20) × (length (named (ascii " ") c.args.bytes) ≤ 21) = (length-decimal 19 c.args.first (omega arith), named_most (ascii " ") c.args.bytes (omega arith)) in short-here))

pub put_byte-requires : goal.put_byte-requires
put_byte-requires c = omega (arith, (let short-here : (length (decimal c.args.first) ≤ 20) × (length (named (ascii " ") c.args.bytes) ≤ 21) = (length-decimal 19 c.args.first (omega arith), named_most (ascii " ") c.args.bytes (omega arith)) in short-here))

pub returns : goal.returns
unfolding place_text
returns c = record { wrote = wrote_then c.put_decimal-number.ensures (wrote_then c.put_named-long.ensures c.put_byte.ensures); upper_bound = omega (arith, (let short-here : (length (decimal c.args.first) ≤ 20) × (length (named (ascii " ") c.args.bytes) ≤ 21) = (length-decimal 19 c.args.first (omega arith), named_most (ascii " ") c.args.bytes (omega arith)) in short-here)) }
