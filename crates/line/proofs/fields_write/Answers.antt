-- `line::fields_write` meets its contract: the width byte is stored behind the line.
-- Assumes nothing.
use Rattle.std.proofs.Common.{refl}
use Rattle.format.proofs.Stores.{wrote_then}
use Rattle.line.proofs.fields_write.Goals as goal

pub returns : goal.returns
returns c = wrote_then c.write-place.ensures (record { ends = refl; list = refl })
