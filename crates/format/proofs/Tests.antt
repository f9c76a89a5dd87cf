-- What a test that is known says.
--     or_true, and_left, and_right             of two tests
--     when, unless, as_when, as_unless         one of two statements by a test
--     positive                                 a number that is not 0
-- Assumes nothing.
use mathlib.Core.Path.{◌≡◌, refl}
use mathlib.Core.Bool.{Bool, true, false, ◌&&◌, ◌||◌}
use Prim.Native.Nat.{ℕ, ◌<◌}
use native.Mathlib.Omega.{arith}
use Rattle.format.specs.Outcome.{pick}

pub or_true : (t : Bool) → (t || true) ≡ true
or_true true = refl
or_true false = refl

pub and_left : (a b : Bool) → (a && b) ≡ true → a ≡ true
and_left true b e = refl
and_left false b e = e

pub and_right : (a b : Bool) → (a && b) ≡ true → b ≡ true
and_right true b e = e
and_right false b e = absurd (let z : ◌≡◌ {A = ℕ} 0 1 = cc in omega arith)

pub as_when : (A B : Type 0) (t : Bool) → t ≡ true → A → pick t A B
as_when A B true e x = x
as_when A B false e x = let z : ◌≡◌ {A = ℕ} 0 1 = cc in absurd (omega arith)

pub as_unless : (A B : Type 0) (t : Bool) → t ≡ false → B → pick t A B
as_unless A B false e x = x
as_unless A B true e x = let z : ◌≡◌ {A = ℕ} 0 1 = cc in absurd (omega arith)

pub when : (A B : Type 0) (t : Bool) → t ≡ true → pick t A B → A
when A B true e x = x
when A B false e x = let z : ◌≡◌ {A = ℕ} 0 1 = cc in absurd (omega arith)

pub unless : (A B : Type 0) (t : Bool) → t ≡ false → pick t A B → B
unless A B false e x = x
unless A B true e x = let z : ◌≡◌ {A = ℕ} 0 1 = cc in absurd (omega arith)

-- a number that is not 0
pub positive : (n : ℕ) → (n ≡ 0 → ⊥) → 0 < n
positive n h = omega arith
