-- `u64_based::serialize` meets its contract: numbers are stored as they are.
-- Assumes nothing.
use Rattle.write_codec.proofs.Serializing.{numbers-written}
use Rattle.u64_based.proofs.serialize.Goals as goal

pub returns : goal.returns
returns c = numbers-written _ _ _ c.serialize_as.ensures
