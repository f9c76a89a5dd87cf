-- `put_answer` meets its contract: each arm writes what `answer_text` says of its case, and neither is longer than twenty bytes.
-- Assumes nothing.
use Prim.Native.Nat.{◌≤◌}
use native.Mathlib.Omega.{arith}
use lib.ListN.{length}
use Rattle.format.specs.Listing.{ascii, decimal, named}
use Rattle.text.proofs.Decimals.{length-decimal}
use Rattle.text.proofs.Texts.{length-named}
use Rattle.text.proofs.lines.put_answer.Goals as goal

pub put_decimal-requires : goal.put_decimal-requires
put_decimal-requires c = omega (arith, (let digits-here : length (decimal c.in-Ok.v) ≤ 20 = length-decimal 19 c.in-Ok.v (omega arith) in digits-here))

pub put_named-requires : goal.put_named-requires
put_named-requires c = omega (arith, (let short-here : length (named (ascii "refused ") c.number.result) ≤ 11 = omega (arith, length-named (ascii "refused ") c.number.result, length-decimal 2 c.number.result (omega arith)) in short-here))

pub returns-in-Ok : goal.returns-in-Ok
returns-in-Ok c = record { wrote = rw c.in-Ok.is c.put_decimal.ensures; upper_bound = omega (arith, c.put_decimal.ensures.ends, (let digits-here : length (decimal c.in-Ok.v) ≤ 20 = length-decimal 19 c.in-Ok.v (omega arith) in digits-here)) }

pub returns-in-Err : goal.returns-in-Err
returns-in-Err c = record { wrote = rw (c.in-Err.is, ← c.number.ensures) c.put_named.ensures; upper_bound = omega (arith, c.put_named.ensures.ends, (let short-here : length (named (ascii "refused ") c.number.result) ≤ 11 = omega (arith, length-named (ascii "refused ") c.number.result, length-decimal 2 c.number.result (omega arith)) in short-here)) }
