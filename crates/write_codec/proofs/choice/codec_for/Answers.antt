-- `write_codec::choice::codec_for` meets its contract: Blockwise alone is the least of itself, and else the choice names its codec.
-- Assumes nothing.
use Rattle.write_codec.proofs.Choosing.{names_only}
use Rattle.write_codec.proofs.choice.codec_for.Goals as goal

pub returns-then-only_blockwise : goal.returns-then-only_blockwise
returns-then-only_blockwise c = names_only _ _ _ (c.only_blockwise.ensures c.if-only_blockwise.true)
