-- `byte_owner::step` meets its contract: the block has rows there, or the search goes on behind it.
-- Assumes nothing.
use Rattle.std.proofs.Common.{sym, ◌∙◌}
use Rattle.byte_owner.proofs.Searches.{step_found, step_more}
use Rattle.byte_owner.proofs.step.Goals as goal

pub returns-then-is_some-clause-searching : goal.returns-then-is_some-clause-searching
returns-then-is_some-clause-searching c =
    rw c.over.ensures (step_found c.requires.0 c.requires.1 c.args.block _ c.block_run-owners.ensures (sym c.is_some.ensures ∙ c.if-is_some.true))

pub returns-clause-searching : goal.returns-clause-searching
returns-clause-searching c = step_more c.requires.0 c.requires.1 c.args.block _ c.block_run-owners.ensures (sym c.is_some.ensures ∙ c.if-is_some.false)
