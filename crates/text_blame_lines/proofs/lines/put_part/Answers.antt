-- `put_part` meets its contract: a part's name, or a refusal's number.
-- Assumes nothing.
use Prim.Native.Nat.{◌≤◌}
use native.Mathlib.Omega.{arith}
use lib.ListN.{length}
use Rattle.format.specs.Listing.{ascii, named}
use Rattle.text.proofs.Decimals.{length-decimal}
use Rattle.text.proofs.Texts.{length-named}
use Rattle.text_blame_lines.proofs.lines.put_part.Goals as goal

pub put_named-requires : goal.put_named-requires
put_named-requires c = omega (arith, (let short : length (named (ascii "refused ") c.number.result) ≤ 11 = omega (arith, length-named (ascii "refused ") c.number.result, length-decimal 2 c.number.result (omega arith)) in short))

pub returns-in-Ok : goal.returns-in-Ok
returns-in-Ok c = record { wrote = rw c.in-Ok.is c.put_name.ensures.wrote; upper_bound = c.put_name.ensures.upper_bound }

pub returns-in-Err : goal.returns-in-Err
returns-in-Err c = record { wrote = rw (c.in-Err.is, ← c.number.ensures) c.put_named.ensures; upper_bound = omega (arith, c.put_named.ensures.ends, (let short : length (named (ascii "refused ") c.number.result) ≤ 11 = omega (arith, length-named (ascii "refused ") c.number.result, length-decimal 2 c.number.result (omega arith)) in short)) }
