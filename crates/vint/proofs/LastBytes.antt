-- A varint's tenth byte ends it.
--     tenth_is          behind nine bytes that do not end it, a varint is what its tenth byte makes of it
-- Assumes nothing.
use mathlib.Core.Path.{◌≡◌, sym, ◌∙◌}
use mathlib.Core.Logic.{⊎_elim}
use mathlib.Core.List.{List, [], ◌∷◌}
use Prim.Native.Nat.{ℕ, ◌+◌, ◌^◌, ◌≤◌, ◌<◌}
use native.Mathlib.Omega.{arith}
use lib.ListN.{length, get_or, get_or-eq_default}
use borrow.Author.Tests.{ne_eqb}
use Rattle.format.specs.Outcome.{Outcome.refusal}
use Rattle.format.specs.Varint.{read_varint}
use Rattle.format.proofs.Lists.{below_or}
use Rattle.format.proofs.VarintLoops.{ReadingVarint, reading_ends, tenth_ends, tenth_refused}
use Rattle.vint.specs.Meaning.{ended_by, tenth_at}

-- past the end stands no such byte
pub tenth_absent : (s : List ℕ) (at number pos : ℕ) → length s ≤ pos → tenth_at s at number pos ≡ refusal 6 (at ∷ [])
tenth_absent s at number pos h = rw (get_or-eq_default s 0 h)

-- any byte but the two is refused
pub tenth_other : (at number pos b : ℕ) → (b ≡ 128 → ⊥) → (b ≡ 129 → ⊥) → ended_by at number pos b ≡ refusal 6 (at ∷ [])
tenth_other at number pos b p q = rw (ne_eqb b 128 p, ne_eqb b 129 q)

module _ {s : List ℕ} {at number scale pos used : ℕ} (r : ReadingVarint s at number scale pos used) (u : 9 ≤ used) where
  nine : used ≡ 9
  nine = omega (arith, r.few)

  nothing : pos < length s → get_or s pos 0 ≡ 128 → tenth_at s at number pos ≡ read_varint s at
  nothing h e = rw (tenth_ends r number 0 u h e (omega arith) (omega arith), e, nine)

  one_bit : pos < length s → get_or s pos 0 ≡ 129 → tenth_at s at number pos ≡ read_varint s at
  one_bit h e = rw (tenth_ends r (number + 2 ^ 63) 1 u h e (omega arith) (omega arith), e, nine)

  another : pos < length s → (get_or s pos 0 ≡ 128 → ⊥) → (get_or s pos 0 ≡ 129 → ⊥) → tenth_at s at number pos ≡ read_varint s at
  another h p q = tenth_other at number pos (get_or s pos 0) p q ∙ sym (tenth_refused r u h p q)

  there : pos < length s → tenth_at s at number pos ≡ read_varint s at
  there h =
      ⊎_elim
      (λ (low : get_or s pos 0 < 129).
      ⊎_elim
      (λ (lower : get_or s pos 0 < 128). another h (λ e. omega arith) (λ e. omega arith))
      (λ (least : 128 ≤ get_or s pos 0). nothing h (omega arith))
      (below_or (get_or s pos 0) 128))
      (λ (high : 129 ≤ get_or s pos 0).
      ⊎_elim
      (λ (most : get_or s pos 0 < 130). one_bit h (omega arith))
      (λ (higher : 130 ≤ get_or s pos 0). another h (λ e. omega arith) (λ e. omega arith))
      (below_or (get_or s pos 0) 130))
      (below_or (get_or s pos 0) 129)

  pub tenth_is : tenth_at s at number pos ≡ read_varint s at
  tenth_is =
      ⊎_elim
      (λ (inside : pos < length s). there inside)
      (λ (past : length s ≤ pos). tenth_absent s at number pos past ∙ sym (reading_ends r past))
      (below_or pos (length s))
