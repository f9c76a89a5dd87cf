-- The code byte, and the body that it names.
--     stop_none, stop_unknown         there is no code byte, or it names no codec
--     reach-known                     else the head decides, then the body
--     body-blockwise                  a codec that is neither 0 nor 1 is Blockwise
-- Assumes nothing.
use Rattle.std.specs.Prelude.{Some}
use Prim.Native.Nat.{ℕ, zero, suc, ◌≤◌, ◌<◌}
use mathlib.Core.Path.{◌≡◌, refl}
use mathlib.Core.List.{List, [], ◌∷◌}
use native.Mathlib.Omega.{arith}
use lib.ListN.{length, get_or}
use borrow.Author.Tests.{le-leb, lt-leb}
use Rattle.format.specs.declared.Head.{Head}
use Rattle.format.specs.declared.PartName.TheVariants.{Code}
use Rattle.format.specs.Stops.{◌>>=◌, reach_head, reach_body, reach, stop_of}

pub stop_none : (s : List ℕ) → length s ≡ 0 → Some (record { number = 5; name = Code; first = 0 }) ≡ stop_of s
unfolding reach
stop_none [] e = refl
stop_none (c ∷ s) e = absurd (omega arith)

pub stop_unknown : (s : List ℕ) → 0 < length s → 2 < get_or s 0 0 → Some (record { number = 5; name = Code; first = 0 }) ≡ stop_of s
unfolding reach
stop_unknown [] there h = absurd (omega arith)
stop_unknown (c ∷ s) there h = rw (lt-leb c 2 h)

pub reach-known : (s : List ℕ) → 0 < length s → get_or s 0 0 ≤ 2 → reach s ≡ (reach_head s >>= (λ (h : Head). reach_body (get_or s 0 0) s h))
unfolding reach
reach-known [] there h = absurd (omega arith)
reach-known (c ∷ s) there h = rw (le-leb c 2 h)

pub body-blockwise : (code : ℕ) (s : List ℕ) (h : Head) → (code ≡ 0 → ⊥) → (code ≡ 1 → ⊥) → reach_body code s h ≡ reach_body 2 s h
unfolding reach_body
body-blockwise zero s h a b = absurd (a refl)
body-blockwise (suc zero) s h a b = absurd (b refl)
body-blockwise (suc (suc c)) s h a b = refl
