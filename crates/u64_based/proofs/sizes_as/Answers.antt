-- `u64_based::sizes_as` meets its contract: the test of the number of values is the rule's demand, and each codec is sized by their statistics.
-- Assumes nothing.
use mathlib.Core.Path.{◌≡◌}
use Rattle.format.specs.Refusals.{numbered}
use Rattle.format.specs.Typed.{stored_as}
use borrow.Author.Rules.{rules}
use Rattle.u64_based.specs.Calls.{sizes}
use Rattle.u64_based.proofs.Holding.{describes_of, too_many, not_too_many}
use Rattle.u64_based.proofs.sizes_as.Goals as goal

pub returns-in_err-few : goal.returns-in_err-few
unfolding sizes
returns-in_err-few c =
    let refused : sizes (stored_as c.args.kind c.args.values.now) ≡ numbered c.in_err-few.field-0.0 = rw (too_many c.args.kind c.args.values.now c.in_err-few.ensures.1, c.in_err-few.ensures.0) in
    search rules

pub size_by-bitpacked-requires-clause-describes : goal.size_by-bitpacked-requires-clause-describes
size_by-bitpacked-requires-clause-describes c = describes_of c.args.kind c.args.values.now c.in_ok-few.ensures c.type_inv.values c.collect-stats.ensures

pub size_by-linear-requires-clause-describes : goal.size_by-linear-requires-clause-describes
size_by-linear-requires-clause-describes c = describes_of c.args.kind c.args.values.now c.in_ok-few.ensures c.type_inv.values c.collect-stats.ensures

pub size_by-blockwise-requires-clause-describes : goal.size_by-blockwise-requires-clause-describes
size_by-blockwise-requires-clause-describes c = describes_of c.args.kind c.args.values.now c.in_ok-few.ensures c.type_inv.values c.collect-stats.ensures

pub returns : goal.returns
unfolding sizes
returns c = rw (not_too_many c.args.kind c.args.values.now c.in_ok-few.ensures, c.size_by-bitpacked.ensures, c.size_by-linear.ensures, c.size_by-blockwise.ensures, c.collect-stats.ensures)
