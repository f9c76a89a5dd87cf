-- `write_codec::choice::choose` meets its contract. The loop's invariant: the best so far, or what is less in the rest, is the choice.
-- Assumes nothing.
use Rattle.write_codec.proofs.Choosing.{choosing_starts, choosing_next, choosing_ends, known_each}
use borrow.Author.Rules.{rules}
use Rattle.write_codec.proofs.choice.choose.Goals as goal

pub loop-code-init : goal.loop-code-init
loop-code-init c = choosing_starts _ _ _

pub advance-walk-requires : goal.advance-walk-requires
advance-walk-requires c = record { describes = c.requires.describes; code_bound = known_each 0 c.args.codecs.now c.requires.codecs_value c.loop-code.code-index (search rules); walked = c.loop-code.invariant.walked }

pub loop-code-preserved : goal.loop-code-preserved
loop-code-preserved c = choosing_next c.loop-code.invariant (search rules) c.advance-walk.ensures

pub returns : goal.returns
returns c = choosing_ends c.loop-code.invariant (search rules)
