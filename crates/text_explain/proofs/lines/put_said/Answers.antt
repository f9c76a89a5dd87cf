-- `put_said` meets its contract: each arm writes what `said_text` says of its case, and none more than twenty-one bytes.
-- Assumes nothing.
use Prim.Native.Nat.{◌≤◌}
use native.Mathlib.Omega.{arith}
use native.Mathlib.Nat.{add-zero}
use mathlib.Core.Path.{refl, sym}
use lib.ListN.{length}
use Rattle.format.specs.Listing.{ascii, named}
use Rattle.text.proofs.Decimals.{length-decimal}
use Rattle.text.proofs.Texts.{length-named, named_most}
use Rattle.text_explain.proofs.lines.put_said.Goals as goal

pub put_named-requires : goal.put_named-requires
put_named-requires c = omega (arith, (let number-here : length (named (ascii " ") c.in-Number.n) ≤ 21 = named_most (ascii " ") c.in-Number.n (omega arith) in number-here))

pub put_named-requires-in-Bits : goal.put_named-requires-in-Bits
put_named-requires-in-Bits c = omega (arith, (let bits-here : length (named (ascii " bits ") c.in-Bits.n) ≤ 9 = omega (arith, length-named (ascii " bits ") c.in-Bits.n, length-decimal 2 c.in-Bits.n (omega arith)) in bits-here))

pub returns-in-Number : goal.returns-in-Number
returns-in-Number c = record { wrote = rw c.in-Number.is c.put_named.ensures; upper_bound = omega (arith, c.put_named.ensures.ends, (let number-here : length (named (ascii " ") c.in-Number.n) ≤ 21 = named_most (ascii " ") c.in-Number.n (omega arith) in number-here)) }

pub returns-in-Bits : goal.returns-in-Bits
returns-in-Bits c = record { wrote = rw c.in-Bits.is c.put_named-in-Bits.ensures; upper_bound = omega (arith, c.put_named-in-Bits.ensures.ends, (let bits-here : length (named (ascii " bits ") c.in-Bits.n) ≤ 9 = omega (arith, length-named (ascii " bits ") c.in-Bits.n, length-decimal 2 c.in-Bits.n (omega arith)) in bits-here)) }

pub returns-in-Nothing : goal.returns-in-Nothing
returns-in-Nothing c = record { wrote = rw c.in-Nothing.is (record { ends = sym (add-zero _); list = refl }); upper_bound = omega arith }
