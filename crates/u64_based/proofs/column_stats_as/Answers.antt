-- `u64_based::column_stats_as` meets its contract: the test of the number of values is the rule's demand.
-- Assumes nothing.
use mathlib.Core.Path.{◌≡◌}
use Rattle.format.specs.Refusals.{numbered}
use Rattle.format.specs.Stats.{stated}
use Rattle.format.specs.Typed.{stored_as}
use borrow.Author.Rules.{rules}
use Rattle.u64_based.proofs.Holding.{too_many, not_too_many}
use Rattle.u64_based.proofs.column_stats_as.Goals as goal

pub returns-in_err-few : goal.returns-in_err-few
unfolding stated
returns-in_err-few c =
    let refused : stated (stored_as c.args.kind c.args.values.now) ≡ numbered c.in_err-few.field-0.0 = rw (too_many c.args.kind c.args.values.now c.in_err-few.ensures.1, c.in_err-few.ensures.0) in
    search rules

pub returns : goal.returns
unfolding stated
returns c = rw (not_too_many c.args.kind c.args.values.now c.in_ok-few.ensures, c.collect.ensures)
