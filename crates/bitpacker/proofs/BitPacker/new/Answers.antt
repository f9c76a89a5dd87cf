-- `bitpacker::BitPacker::new` meets its contract: no bits stand in no bytes, and none are held.
-- Assumes nothing.
use Rattle.bitpacker.proofs.PackerLaws.{packs_none}
use Rattle.bitpacker.proofs.BitPacker.new.Goals as goal

pub returns : goal.returns
returns c = packs_none
