-- `write_codec::choice::advance` meets its contract: a codec that was met does not beat the best, and another is compared with it.
-- Assumes nothing.
use Rattle.format.specs.Typed.{stored_as}
use Rattle.write_codec.proofs.Choosing.{walked_same, walked_more}
use Rattle.write_codec.proofs.choice.advance.Goals as goal

pub returns-then-is_met : goal.returns-then-is_met
returns-then-is_met c =
    let walked = c.requires.walked in
    (walked, walked_same _ _ walked _ c.is_met.ensures c.if-is_met.true)

pub returns : goal.returns
returns c =
    walked_more c.args.stats (stored_as c.args.kind c.args.values.now) c.requires.walked c.args.code c.requires.code_bound c.sized.ensures
    c.smaller_of-better.ensures.0 c.smaller_of-better.ensures.1 c.marked-more.ensures
