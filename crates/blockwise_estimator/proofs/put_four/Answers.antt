-- `put_four` meets its contract: each byte is the last quotient by 256, modulo 256.
-- Assumes nothing.
use native.Mathlib.Numerals.{add-one, add-two, add-three}
use native.Mathlib.Omega.{arith}
use Prim.Native.Nat.{ℕ, ◌/◌}
use mathlib.Core.Path.{◌≡◌, refl}
use Rattle.format.specs.Packing.{num_bytes}
use Rattle.blockwise_estimator.proofs.put_four.Goals as goal

-- a byte higher at a time
higher : (n : ℕ) → n / 256 / 256 ≡ n / 65536
higher n = omega arith

highest : (n : ℕ) → n / 65536 / 256 ≡ n / 16777216
highest n = omega arith

pub returns : goal.returns
unfolding num_bytes
returns c = record { ends = refl; list = simp (add-one, add-two, add-three, higher, highest) }
