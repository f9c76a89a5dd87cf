-- The first field that differs, offset by offset.
--     field_found, field_more, field_ends      at an offset; behind one that has none; behind the last
--     first_found                              the first offset that has one, or none has
-- Assumes nothing.
use Rattle.std.specs.Prelude.{Option, Some, None, MatchOption}
use Prim.Native.Nat.{ℕ, zero, suc, ◌+◌, ◌-◌, ◌≤◌, ◌<◌}
use mathlib.Core.Path.{◌≡◌, refl, sym, ap, ◌∙◌}
use mathlib.Core.Bool.{Bool, true, false}
use mathlib.Core.List.{List}
use native.Mathlib.Numerals.{add-one}
use native.Mathlib.Omega.{arith}
use lib.Dec.{eqb}
use lib.ListN.{get_or}
use Rattle.format.specs.declared.Part.{Part}
use Rattle.format.specs.declared.PartName.{PartName}
use Rattle.format.specs.Outcome.{Outcome, Outcome.value, Outcome.refusal, pick}
use Rattle.format.specs.Parts.{shape_of}
use Rattle.text_blame_bytes.specs.Fields.{is_field, field_or, first_field}

-- a field that is there hides what comes later; where none is, that counts
abbrev Hides : (here : Option (ℕ × PartName)) (with : Option (ℕ × PartName)) (later : Option (ℕ × PartName)) → Type 0
Hides (Some (j, name)) with later = with ≡ Some (j, name)
Hides None with later = with ≡ later

hides_by : (b : Bool) (i : ℕ) (name : PartName) (later : Option (ℕ × PartName)) → Hides (pick b (Some (i, name)) None) (pick b (Some (i, name)) later) later
hides_by true i name later = refl
hides_by false i name later = refl

hides_at : (o : Outcome Part) (i : ℕ) (later : Option (ℕ × PartName)) → Hides (field_or o i None) (field_or o i later) later
hides_at (value p) i later = hides_by (is_field (shape_of p.name)) i p.name later
hides_at (refusal number also) i later = refl

hides : (test : Bool) (o : Outcome Part) (i : ℕ) (later : Option (ℕ × PartName)) → Hides (pick test None (field_or o i None)) (pick test later (field_or o i later)) later
hides true o i later = refl
hides false o i later = hides_at o i later

module _ (part : ℕ → Outcome Part) (s t : List ℕ) where
  step : (i n : ℕ) → Hides (first_field part s t i 1) (first_field part s t i (suc n)) (first_field part s t (suc i) n)
  unfolding first_field
  step i n = hides (eqb (get_or s i 0) (get_or t i 0)) (part i) i (first_field part s t (suc i) n)

  left : (i n : ℕ) → i < n → n - i ≡ suc (n - suc i)
  left i n h = omega arith

  pub field_found : (i n j : ℕ) (name : PartName) → i < n → first_field part s t i 1 ≡ Some (j, name) → first_field part s t i (n - i) ≡ Some (j, name)
  field_found i n j name h e = ap (first_field part s t i) (left i n h) ∙ (rw e at (step i (n - suc i)))

  pub field_more : (i n : ℕ) → i < n → first_field part s t i 1 ≡ None → first_field part s t i (n - i) ≡ first_field part s t (i + 1) (n - (i + 1))
  field_more i n h e = rw add-one (ap (first_field part s t i) (left i n h) ∙ (rw e at (step i (n - suc i))))

  pub field_ends : (i n : ℕ) → n ≤ i → first_field part s t i (n - i) ≡ None
  unfolding first_field
  field_ends i n h =
      let none : n - i ≡ 0 = omega arith in
      ap (first_field part s t i) none

  -- past offsets that have none
  passed : (n i : ℕ) → i ≤ n → ((k : ℕ) → k < i → first_field part s t k 1 ≡ None) → first_field part s t 0 n ≡ first_field part s t i (n - i)
  passed n zero h none =
      let all : n ≡ n - 0 = omega arith in
      ap (first_field part s t 0) all
  passed n (suc i) h none =
      passed n i (omega arith) (λ k below. none k (omega arith)) ∙ rw add-one at (field_more i n (omega arith) (none i (omega arith)))

  pub first_found : (n : ℕ) (r : Option (ℕ × PartName))
      → MatchOption r ((k : ℕ) → k < n → first_field part s t k 1 ≡ None)
      (λ y. (i : ℕ) × (i < n) × (first_field part s t i 1 ≡ Some y) × ((k : ℕ) → k < i → first_field part s t k 1 ≡ None))
      → r ≡ first_field part s t 0 n
  first_found n None none = sym (passed n n (omega arith) none ∙ field_ends n n (omega arith))
  first_found n (Some (j, name)) (i, inside, here, none) = sym (passed n i (omega arith) none ∙ field_found i n j name inside here)
