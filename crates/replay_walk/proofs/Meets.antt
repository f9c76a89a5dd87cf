-- Comparing found rows with the recorded ones as they come.
--     come_next, come_none                          the recorded rows still to come
--     missed, too_many, another, met                one row
--     Meeting, meet_more, meet_stops, meet_ends      a loop over a list of values
-- Assumes nothing.
use Prim.Native.Nat.{ℕ, suc, ◌+◌, ◌-◌, ◌≤◌, ◌<◌}
use mathlib.Core.Path.{◌≡◌, refl, sym, ap, ◌∙◌}
use mathlib.Core.Bool.{Bool, true, false}
use mathlib.Core.List.{List, [], ◌∷◌, ◌++◌}
use native.Mathlib.Omega.{arith}
use lib.ListN.{length, drop, get_or}
use borrow.Author.Tests.{eq-eqb, ne_eqb}
use Rattle.format.specs.declared.Recording.{Recording}
use Rattle.format.specs.declared.Recorded.{Recorded}
use Rattle.format.specs.Outcome.{pick}
use Rattle.format.specs.Replaying.{listed_at, listed_from, same_rows}
use Rattle.read_chunk.specs.Rows.{rows_among}
use Rattle.read_chunk.proofs.Rows.{picked, rows_next, rows_none}
use Rattle.replay_walk.specs.Walking.{to_come}

module _ (h : Recording) (s : List ℕ) (r : Recorded) where
  pub come_next : (n : ℕ) → n < r.many → to_come h s r n ≡ listed_at h s (r.place + n) ∷ to_come h s r (n + 1)
  unfolding listed_from
  come_next n less =
      let more : r.many - n ≡ suc (r.many - (n + 1)) = omega arith in
      let next : suc (r.place + n) ≡ r.place + (n + 1) = omega arith in
      rw (more, next) refl

  pub come_none : (n : ℕ) → r.many ≤ n → to_come h s r n ≡ []
  unfolding listed_from
  come_none n last = let none : r.many - n ≡ 0 = omega arith in rw none refl

  -- ---- one row, which is looked for by a test

  module _ (n row : ℕ) (rest : List ℕ) where
    pub missed : {t : Bool} → t ≡ false → same_rows (pick t (row ∷ rest) rest) (to_come h s r n) ≡ same_rows rest (to_come h s r n)
    missed is = rw is refl

    pub too_many : {t : Bool} → t ≡ true → r.many ≤ n → same_rows (pick t (row ∷ rest) rest) (to_come h s r n) ≡ false
    unfolding same_rows
    too_many is last = rw (is, come_none n last) refl

    pub another : {t : Bool} → t ≡ true → n < r.many → {x : ℕ} → x ≡ listed_at h s (r.place + n) → (x ≡ row → ⊥) → same_rows (pick t (row ∷ rest) rest) (to_come h s r n) ≡ false
    unfolding same_rows
    another is less {x} e other = rw (is, come_next n less, ne_eqb row (listed_at h s (r.place + n)) (λ (p : row ≡ listed_at h s (r.place + n)). other (e ∙ sym p))) refl

    pub met : {t : Bool} → t ≡ true → n < r.many → {x : ℕ} → x ≡ listed_at h s (r.place + n) → x ≡ row
        → same_rows (pick t (row ∷ rest) rest) (to_come h s r n) ≡ same_rows rest (to_come h s r (n + 1))
    unfolding same_rows
    met is less {x} e same = rw (is, come_next n less, eq-eqb row (listed_at h s (r.place + n)) (sym same ∙ e)) refl

  -- ---- a list of values, the first being some row's

  module _ (test : ℕ → Bool) (values : List ℕ) (row : ℕ) where
    next : (i : ℕ) → i < length values
        → rows_among test (row + i) (drop i values) ≡ pick (test (get_or values i 0)) ((row + i) ∷ rows_among test (row + (i + 1)) (drop (i + 1) values)) (rows_among test (row + (i + 1)) (drop (i + 1) values))
    next i less = let after : row + i + 1 ≡ row + (i + 1) = omega arith in rw (rows_next test (row + i) values i less, after) refl

    -- the rows found are the recorded ones, if those from value i on are those behind the first n
    pub record Meeting (before n i : ℕ) : Type 0 where
      pub few : n ≤ r.many
      pub rest : (rest : List ℕ) → same_rows (rows_among test row values ++ rest) (to_come h s r before) ≡ same_rows (rows_among test (row + i) (drop i values) ++ rest) (to_come h s r n)

    module _ {before n i : ℕ} (f : Meeting before n i) (less : i < length values) (t : Bool) (m : ℕ)
        (here : (rest : List ℕ) → same_rows (pick (test (get_or values i 0)) ((row + i) ∷ rest) rest) (to_come h s r n) ≡ pick t (same_rows rest (to_come h s r m)) false) where
      turn : (rest : List ℕ) → same_rows (rows_among test row values ++ rest) (to_come h s r before) ≡ pick t (same_rows (rows_among test (row + (i + 1)) (drop (i + 1) values) ++ rest) (to_come h s r m)) false
      turn rest =
          let l = rows_among test (row + (i + 1)) (drop (i + 1) values) in
          f.rest rest
          ∙ ap (λ (k : List ℕ). same_rows (k ++ rest) (to_come h s r n)) (next i less)
          ∙ ap (λ (k : List ℕ). same_rows k (to_come h s r n)) (sym (picked (test (get_or values i 0)) (row + i) l rest))
          ∙ here (l ++ rest)

      pub meet_more : t ≡ true → m ≤ r.many → Meeting before m (i + 1)
      meet_more is few = record { few = few; rest = λ rest. turn rest ∙ rw is refl }

      pub meet_stops : t ≡ false → (rest : List ℕ) → same_rows (rows_among test row values ++ rest) (to_come h s r before) ≡ pick t (same_rows rest (to_come h s r m)) false
      meet_stops is rest = turn rest ∙ rw is refl

    pub meet_ends : {before n i : ℕ} → Meeting before n i → length values ≤ i → (rest : List ℕ) → same_rows (rows_among test row values ++ rest) (to_come h s r before) ≡ same_rows rest (to_come h s r n)
    meet_ends {before} {n} {i} f last rest = f.rest rest ∙ ap (λ (k : List ℕ). same_rows (k ++ rest) (to_come h s r n)) (rows_none test (row + i) values i last)
