-- What a caller knows of a reading.
--     fields_narrow       a width that was read has at most 64 bits
-- Assumes nothing.
use Prim.Native.Nat.{ℕ, ◌≤◌}
use mathlib.Core.Path.{◌≡◌, refl, ap}
use mathlib.Core.List.{List}
use native.Mathlib.Omega.{arith}
use Rattle.format.specs.declared.Fields.{Fields}
use Rattle.format.specs.declared.PartName.{PartName}
use Rattle.format.specs.Outcome.{Outcome, Outcome.value, Outcome.refusal}
use Rattle.format.specs.Varint.{read_varint}
use Rattle.format.specs.Opening.{read_width}
use Rattle.format.specs.Stops.{Reach, Reach.reached, Reach.stops, ◌>>=◌, during, reach_fields}
use Rattle.format.proofs.LineFields.{width_read}
use Rattle.format.proofs.Widths.{legal_most}

-- ---- widths

by_reach : {A B : Type 0} {b : B} {C : Type 0} (r : Reach A) (k : A → Reach B) → (r >>= k) ≡ reached b → ((a : A) → r ≡ reached a → k a ≡ reached b → C) → C
by_reach (reached a) k e next = next a refl e
by_reach (stops t) k e next = absurd (let z : ◌≡◌ {A = ℕ} 0 1 = cc in omega arith)

read : {A : Type 0} (n : PartName) (at : ℕ) (o : Outcome A) (a : A) → during n at o ≡ reached a → o ≡ value a
read n at (value x) a e = let same : x ≡ a = cc in ap value same
read n at (refusal number also) a e = absurd (let z : ◌≡◌ {A = ℕ} 0 1 = cc in omega arith)

pub fields_narrow : (a b w : PartName) (s : List ℕ) (at : ℕ) (f : Fields) → reach_fields a b w s at ≡ reached f → f.bits ≤ 64
unfolding reach_fields
fields_narrow a b w s at f e =
    by_reach (during a at (read_varint s at)) _ e λ m _ e.
    by_reach (during b m.next (read_varint s m.next)) _ e λ i _ e.
    by_reach (during w i.next (read_width s i.next)) _ e λ x is e.
    let bits : x ≡ f.bits = cc in
    omega (arith, bits, legal_most x (width_read s i.next x (read w i.next (read_width s i.next) x is)).lawful)
