-- `pack_at` meets its contract: the output's rest is lent to the packer, which fills its front.
-- Assumes nothing.
use Prim.Native.Nat.{ℕ, ◌+◌, ◌-◌, ◌*◌}
use mathlib.Core.Path.{◌≡◌, refl}
use mathlib.Core.List.{List, ◌++◌}
use lib.ListN.{length, take, drop}
use Rattle.format.specs.Outcome.{Wrote}
use Rattle.format.specs.Word.{bytes_for}
use Rattle.format.specs.Packing.{packed}
use Rattle.format.proofs.Packing.{length-packed}
use Rattle.format.proofs.Stores.{rest_wrote}
use Rattle.blockwise_estimator.specs.Writer.{Room}
use Rattle.blockwise_estimator.proofs.pack_at.Goals as goal

-- the packed rows stand in the output
wrote : {w : ℕ} {rows out : List ℕ} {at : ℕ} → Room w rows out at → (n : ℕ) → n ≡ bytes_for (w * length rows) → (last : List ℕ)
    → last ≡ packed w rows ++ drop (bytes_for (w * length rows)) (take (length out - at) (drop at out))
    → Wrote out at (packed w rows) (take at out ++ (last ++ drop (length out - at) (drop at out))) (at + n)
wrote {w} {rows} {out} {at} r n e last filled = rw e (rest_wrote at (bytes_for (w * length rows)) (packed w rows) out out last (length-packed w rows) refl r.room filled)

pub returns : goal.returns
returns c = wrote c.requires _ c.packed_len.ensures _ c.pack.ensures
