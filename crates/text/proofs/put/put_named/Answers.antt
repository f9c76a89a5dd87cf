-- `put_named` meets its contract: the name, and behind it the number.
-- Assumes nothing.
use native.Mathlib.Omega.{arith}
use Rattle.format.specs.Listing.{named}
use Rattle.format.proofs.Stores.{wrote_then}
use Rattle.text.proofs.Texts.{length-named}
use Rattle.text.proofs.put.put_named.Goals as goal

pub put_text-number-requires : goal.put_text-number-requires
put_text-number-requires c = omega (arith, length-named c.args.name.now c.args.n)

pub put_decimal-requires : goal.put_decimal-requires
put_decimal-requires c = omega (arith, length-named c.args.name.now c.args.n)

pub returns : goal.returns
unfolding named
returns c = wrote_then c.put_text-number.ensures c.put_decimal.ensures
