-- Kinds by their numbers.
--     plain_is, signed_is, date_is, flag_is, float_is, no_kind     the kind of a number
-- Assumes nothing.
use Prim.Native.Nat.{ℕ, zero, suc}
use mathlib.Core.Path.{◌≡◌, refl}
use mathlib.Core.List.{[]}
use Rattle.format.specs.declared.Kind.TheVariants.{U64, I64, Date, Bool as Flag, F64}
use Rattle.format.specs.Outcome.{Outcome.value, Outcome.refusal}
use Rattle.c_numbers.specs.Kinds.{kind_from}

-- ---- the kind of a number

module _ (n : ℕ) where
  pub plain_is : n ≡ 0 → value U64 ≡ kind_from n
  unfolding kind_from
  plain_is e = rw e

  pub signed_is : n ≡ 1 → value I64 ≡ kind_from n
  unfolding kind_from
  signed_is e = rw e

  pub date_is : n ≡ 2 → value Date ≡ kind_from n
  unfolding kind_from
  date_is e = rw e

  pub flag_is : n ≡ 3 → value Flag ≡ kind_from n
  unfolding kind_from
  flag_is e = rw e

  pub float_is : n ≡ 4 → value F64 ≡ kind_from n
  unfolding kind_from
  float_is e = rw e

pub no_kind : (n : ℕ) → (n ≡ 0 → ⊥) → (n ≡ 1 → ⊥) → (n ≡ 2 → ⊥) → (n ≡ 3 → ⊥) → (n ≡ 4 → ⊥) → refusal 13 [] ≡ kind_from n
unfolding kind_from
no_kind zero n0 n1 n2 n3 n4 = absurd (n0 refl)
no_kind (suc zero) n0 n1 n2 n3 n4 = absurd (n1 refl)
no_kind (suc (suc zero)) n0 n1 n2 n3 n4 = absurd (n2 refl)
no_kind (suc (suc (suc zero))) n0 n1 n2 n3 n4 = absurd (n3 refl)
no_kind (suc (suc (suc (suc zero)))) n0 n1 n2 n3 n4 = absurd (n4 refl)
no_kind (suc (suc (suc (suc (suc n))))) n0 n1 n2 n3 n4 = refl
