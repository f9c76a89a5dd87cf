-- `put_decimal` meets its contract: the kit's digits of a number are its decimal text.
-- Assumes nothing.
use mathlib.Core.Path.{◌≡◌, ap, ◌∙◌}
use native.Mathlib.Omega.{arith}
use lib.ListN.{length, take}
use Rattle.format.specs.Listing.{decimal}
use Rattle.text.proofs.Decimals.{digits_decimal}
use Rattle.text.proofs.put.put_decimal.Goals as goal

pub put_text-requires : goal.put_text-requires
put_text-requires c = omega (arith, ap length ((let spelled-here : take c.decimal-k.result c.decimal-k.new.out ≡ decimal c.args.n = c.decimal-k.ensures.digits ∙ digits_decimal c.decimal-k.result c.args.n c.decimal-k.ensures.len in spelled-here)))

pub returns : goal.returns
returns c = rw ((let spelled-here : take c.decimal-k.result c.decimal-k.new.out ≡ decimal c.args.n = c.decimal-k.ensures.digits ∙ digits_decimal c.decimal-k.result c.args.n c.decimal-k.ensures.len in spelled-here)) at c.put_text.ensures
