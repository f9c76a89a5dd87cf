-- `replay_recording::stands` meets its contract: no sum leaves 64 bits.
-- Assumes nothing.
use Prim.Native.Nat.{◌+◌}
use mathlib.Core.Path.{ap}
use lib.Dec.{leb}
use Rattle.format.specs.declared.Recorded.{Recorded}
use Rattle.replay_recording.proofs.stands.Goals as goal

pub returns : goal.returns
returns c = ap (λ (r : Recorded). leb (r.place + r.many) c.args.head.numbers) c.record_at-item.ensures
