-- The exponent of a gcd: a bound is reached exactly where its place is at most the exponent, and whole numbers give the same or one less.
--     exponent_exactly     the exponent is the last bound that is reached, and every bound before it is
--     exponent_near        beside the exponent of the greatest power of two not above the gcd
-- Assumes nothing.
use mathlib.Core.Path.{◌≡◌, refl, sym, ap, ◌∙◌, subst}
use mathlib.Core.Bool.{Bool, true, false, true≢false}
use mathlib.Core.Logic.{⊎_elim}
use mathlib.Core.List.{List, [], ◌∷◌}
use Prim.Native.Nat.{ℕ, zero, suc, ◌+◌, ◌-◌, ◌*◌, ◌/◌, ◌%◌, ◌^◌, ◌≤◌, ◌<◌, suc-le-suc}
use native.Mathlib.Nat.{le_refl, le_trans, le_of_eq, le_of_lt, lt_of_lt_of_le, lt_of_le_of_lt, lt_of_not-le, not-le_of_lt, mul_assoc, mul_comm, mul-le-mul_right, mul-le-mul, add-zero, zero-add, add-suc, suc-add, not-suc-le-zero, le_of_suc-le-suc, zero-lt-suc, pow-suc, le-div_iff_mul-le}
use native.Mathlib.Omega.{arith}
use lib.Dec.{ltb, leb, lit≤}
use lib.ListN.{length, get_or}
use lib.Pow.{pow-add, pow_pos, pow_mono, shr_lt}
use borrow.Author.Tests.{leb-true, ltb-true, le-leb, lt-leb}
use Rattle.format.specs.Outcome.{pick}
use Rattle.format.specs.Packing.{bit_length}
use Rattle.format.specs.Saving.{nearest, in_f32, reaches, power_bounds, last_reached, exponent_of}
use Rattle.format.proofs.Lists.{below_or}
use Rattle.format.proofs.Widths.{bit_length_above, bit_length_tight, bit_length_most}
use Rattle.format.proofs.Savings.{nearest_most, pick_most, in_f32_exact, every_at, bounds_rise, exponent_most, plain_exponent}

-- ---- f32s by their bits

-- the number that bits stand for, in units of 2^-150
abbrev worth : ℕ → ℕ
worth bits = (2 ^ 23 + bits % 2 ^ 23) * 2 ^ (bits / 2 ^ 23)

-- the bound at a place
abbrev bound : ℕ → ℕ
bound k = get_or power_bounds k 0

-- larger bits are a larger number
worth_mono : (a b : ℕ) → a ≤ b → worth a ≤ worth b
worth_mono a b h = ⊎_elim apart same (below_or (a / 2 ^ 23) (b / 2 ^ 23))
  where
    apart : a / 2 ^ 23 < b / 2 ^ 23 → worth a ≤ worth b
    apart l =
        let few : 2 ^ 23 + a % 2 ^ 23 ≤ 2 ^ 23 * 2 = omega arith in
        le_trans (mul-le-mul_right (2 ^ (a / 2 ^ 23)) few)
        (le_trans (le_of_eq (mul_assoc (2 ^ 23) 2 (2 ^ (a / 2 ^ 23)) ∙ ap (λ (z : ℕ). 2 ^ 23 * z) (mul_comm 2 (2 ^ (a / 2 ^ 23)) ∙ sym (pow-suc 2 (a / 2 ^ 23)))))
        (mul-le-mul (omega arith) (pow_mono l)))

    same : b / 2 ^ 23 ≤ a / 2 ^ 23 → worth a ≤ worth b
    same g =
        let e : a / 2 ^ 23 ≡ b / 2 ^ 23 = omega arith in
        subst (λ (k : ℕ). (2 ^ 23 + a % 2 ^ 23) * 2 ^ k ≤ worth b) (sym e) (mul-le-mul_right (2 ^ (b / 2 ^ 23)) (omega arith))

-- what reaches a bound reaches every smaller one
reaches_down : (n a b : ℕ) → a ≤ b → reaches n b ≡ true → reaches n a ≡ true
unfolding reaches
reaches_down n a b h r = le-leb (worth a) (n * 2 ^ 150) (le_trans (worth_mono a b h) (leb-true (worth b) (n * 2 ^ 150) r))

-- ---- the table

-- earlier bounds are smaller
bounds_mono : (d k : ℕ) → k + d ≤ 64 → bound k ≤ bound (k + d)
bounds_mono zero k h = le_of_eq (ap bound (sym (add-zero k)))
bounds_mono (suc d) k h =
    let place : k + d < 64 = omega arith in
    le_trans (bounds_mono d k (omega arith)) (le_trans (le_of_lt (bounds_rise (k + d) place)) (le_of_eq (ap bound (sym (add-suc k d)))))

-- a power of two reaches its own bound, and not the next
under : ℕ → ℕ → Bool
under k bits = leb (worth bits) (2 ^ k * 2 ^ 150)

over : ℕ → ℕ → Bool
over zero bits = true
over (suc k) bits = ltb (2 ^ k * 2 ^ 150) (worth bits)

bound_under : (k : ℕ) → k < 65 → worth (bound k) ≤ 2 ^ k * 2 ^ 150
unfolding power_bounds under
bound_under k h = leb-true (worth (bound k)) (2 ^ k * 2 ^ 150) (every_at under power_bounds refl k h)

bound_over : (k : ℕ) → k < 64 → 2 ^ k * 2 ^ 150 < worth (bound (suc k))
unfolding power_bounds over
bound_over k h = ltb-true (2 ^ k * 2 ^ 150) (worth (bound (suc k))) (every_at over power_bounds refl (suc k) (omega arith))

-- ---- the search, over bounds that stand in the table from place k on

abbrev Standing : ℕ → List ℕ → Type 0
Standing k bs = (i : ℕ) → i < length bs → get_or bs i 0 ≡ bound (k + i)

standing_rest : (k b : ℕ) (bs : List ℕ) → Standing k (b ∷ bs) → Standing (suc k) bs
standing_rest k b bs s i h = s (suc i) (suc-le-suc h) ∙ ap bound (add-suc k i ∙ sym (suc-add k i))

module _ (n : ℕ) where
  -- a place whose bound is reached
  abbrev Reached : ℕ → Type 0
  Reached k = reaches n (bound k) ≡ true

  -- what is noted is reached
  noted : (last k : ℕ) (bs : List ℕ) → Standing k bs → Reached last → Reached (last_reached n last k bs)
  unfolding last_reached
  noted last k [] s r = r
  noted last k (b ∷ bs) s r =
      noted (pick (reaches n b) k last) (suc k) bs (standing_rest k b bs s) (go (reaches n b) refl)
    where
      here : b ≡ bound k
      here = s 0 (zero-lt-suc _) ∙ ap bound (add-zero k)

      go : (t : Bool) → reaches n b ≡ t → Reached (pick t k last)
      go true e = subst (λ (c : ℕ). reaches n c ≡ true) here e
      go false e = r

  -- later places only go up
  goes_up : (last k : ℕ) (bs : List ℕ) → last ≤ k → last ≤ last_reached n last k bs
  unfolding last_reached
  goes_up last k [] h = le_refl last
  goes_up last k (b ∷ bs) h = le_trans (go (reaches n b)) (goes_up (pick (reaches n b) k last) (suc k) bs (pick_most (reaches n b) k last (suc k) (omega arith) (omega arith)))
    where
      go : (t : Bool) → last ≤ pick t k last
      go true = h
      go false = le_refl last

  -- a reached place is not passed over
  not_passed : (last k : ℕ) (bs : List ℕ) → last ≤ k → Standing k bs → (i : ℕ) → i < length bs → Reached (k + i) → k + i ≤ last_reached n last k bs
  unfolding last_reached
  not_passed last k [] h s i l r = absurd (not-suc-le-zero l)
  not_passed last k (b ∷ bs) h s zero l r =
      let met : reaches n b ≡ true = ap (reaches n) (s 0 (zero-lt-suc _)) ∙ r in
      rw met (le_trans (le_of_eq (add-zero k)) (goes_up k (suc k) bs (omega arith)))
  not_passed last k (b ∷ bs) h s (suc i) l r =
      le_trans (le_of_eq (add-suc k i ∙ sym (suc-add k i)))
      (not_passed (pick (reaches n b) k last) (suc k) bs (pick_most (reaches n b) k last (suc k) (omega arith) (omega arith)) (standing_rest k b bs s) i (le_of_suc-le-suc l)
      (subst Reached (add-suc k i ∙ sym (suc-add k i)) r))

-- ---- rounding keeps to the powers of two round a number

nearest-least : (n u : ℕ) → n / u ≤ nearest n u
unfolding nearest
nearest-least n u = go (ltb (2 * (n % u)) u) (ltb u (2 * (n % u)))
  where
    go : (t s : Bool) → n / u ≤ pick t (n / u) (pick s (n / u + 1) (n / u + n / u % 2))
    go true s = le_refl (n / u)
    go false true = omega arith
    go false false = omega arith

-- by the power p of the leading bit
about_power : (n p : ℕ) → bit_length n ≡ p + 1 → (2 ^ p ≤ in_f32 n) × (in_f32 n ≤ 2 ^ (p + 1))
unfolding in_f32
about_power n p e = ⊎_elim narrow wide (below_or p 24)
  where
    low : 2 ^ p ≤ n
    low = omega (arith, bit_length_tight n, subst (λ (b : ℕ). 2 ^ b ≡ 2 ^ p * 2) (sym e) (pow-add 2 p 1))

    high : n < 2 ^ (p + 1)
    high = subst (λ (b : ℕ). n < 2 ^ b) e (bit_length_above n)

    narrow : p < 24 → (2 ^ p ≤ in_f32 n) × (in_f32 n ≤ 2 ^ (p + 1))
    narrow l =
        let few : n < 2 ^ 24 = lt_of_lt_of_le high (pow_mono {j = 24} (omega arith)) in
        rw (in_f32_exact n few) (low, le_of_lt high)

    wide : 24 ≤ p → (2 ^ p ≤ in_f32 n) × (in_f32 n ≤ 2 ^ (p + 1))
    wide g =
        let t = bit_length n - 24 in
        let lower : 23 + t ≡ p = omega arith in
        let upper : 24 + t ≡ p + 1 = omega arith in
        let first : 2 ^ 23 ≤ n / 2 ^ t = (le-div_iff_mul-le (pow_pos t)).1 (le_trans (le_of_eq (sym (pow-add 2 23 t) ∙ ap (λ (k : ℕ). 2 ^ k) lower)) low) in
        let last : n / 2 ^ t < 2 ^ 24 = shr_lt 24 t (subst (λ (k : ℕ). n < 2 ^ k) (sym upper) high) in (
          le_trans (le_of_eq (ap (λ (k : ℕ). 2 ^ k) (sym lower) ∙ pow-add 2 23 t)) (mul-le-mul_right (2 ^ t) (le_trans first (nearest-least n (2 ^ t)))),
          le_trans (mul-le-mul_right (2 ^ t) (omega (arith, nearest_most n (2 ^ t)))) (le_of_eq (sym (pow-add 2 24 t) ∙ ap (λ (k : ℕ). 2 ^ k) upper)),
        )

-- ---- the exponent

-- the leading bit of a number above 0
leading : (n : ℕ) → 0 < n → bit_length n ≡ plain_exponent n + 1
leading n h = go (bit_length n) (bit_length_above n)
  where
    go : (b : ℕ) → n < 2 ^ b → b ≡ b - 1 + 1
    go zero l = omega arith
    go (suc b) l = omega arith

-- a power of two up to a rounded number: its bound is reached
reached_under : (n k : ℕ) → k < 65 → 2 ^ k ≤ n → Reached n k
unfolding reaches
reached_under n k h l = le-leb (worth (bound k)) (n * 2 ^ 150) (le_trans (bound_under k h) (mul-le-mul_right (2 ^ 150) l))

-- the next bound is not reached from it
not_reached : (n k : ℕ) → k < 64 → n ≤ 2 ^ k → Reached n (suc k) → ⊥
unfolding reaches
not_reached n k h l r = not-le_of_lt (lt_of_le_of_lt (mul-le-mul_right (2 ^ 150) l) (bound_over k h)) (leb-true (worth (bound (suc k))) (n * 2 ^ 150) r)

-- the whole table stands from place 0 on
whole_table : Standing 0 power_bounds
whole_table i h = ap bound (sym (zero-add i))

exponent_reached : (gcd : ℕ) → 0 < gcd → Reached (in_f32 gcd) (exponent_of gcd)
unfolding exponent_of
exponent_reached gcd h =
    let some : 1 ≤ in_f32 gcd = le_trans (pow_pos (plain_exponent gcd)) (about_power gcd (plain_exponent gcd) (leading gcd h)).0 in
    noted (in_f32 gcd) 0 0 power_bounds whole_table (reached_under (in_f32 gcd) 0 (lit≤ tt) some)

reached_most : (gcd k : ℕ) → k ≤ 64 → Reached (in_f32 gcd) k → k ≤ exponent_of gcd
unfolding exponent_of
reached_most gcd k h r =
    let inside : k < length power_bounds = unfold power_bounds in omega arith in
    subst (λ (j : ℕ). j ≤ last_reached (in_f32 gcd) 0 0 power_bounds) (zero-add k)
    (not_passed (in_f32 gcd) 0 0 power_bounds (le_refl 0) whole_table k inside (subst (Reached (in_f32 gcd)) (sym (zero-add k)) r))

-- a gcd reaches a bound exactly where its place is at most the gcd's exponent
pub exponent_exactly : (gcd k : ℕ) → 0 < gcd → k ≤ 64 → reaches (in_f32 gcd) (get_or power_bounds k 0) ≡ leb k (exponent_of gcd)
exponent_exactly gcd k some h = go (reaches (in_f32 gcd) (bound k)) refl
  where
    go : (t : Bool) → reaches (in_f32 gcd) (bound k) ≡ t → t ≡ leb k (exponent_of gcd)
    go true e = sym (le-leb k (exponent_of gcd) (reached_most gcd k h e))
    go false e = sym (lt-leb k (exponent_of gcd) (lt_of_not-le (λ (g : k ≤ exponent_of gcd). true≢false (sym (down g) ∙ e))))
      where
        down : k ≤ exponent_of gcd → reaches (in_f32 gcd) (bound k) ≡ true
        down g =
            let far : k + (exponent_of gcd - k) ≡ exponent_of gcd = omega arith in
            reaches_down (in_f32 gcd) (bound k) (bound (exponent_of gcd))
            (subst (λ (j : ℕ). bound k ≤ bound j) far (bounds_mono (exponent_of gcd - k) k (omega (arith, exponent_most gcd))))
            (exponent_reached gcd some)

-- beside whole numbers: the same exponent, or one more
pub exponent_near : (gcd : ℕ) → 0 < gcd → gcd < 2 ^ 64 → (plain_exponent gcd ≤ exponent_of gcd) × (exponent_of gcd ≤ plain_exponent gcd + 1)
exponent_near gcd some h =
    let p = plain_exponent gcd in
    let round = about_power gcd p (leading gcd some) in
    let few : bit_length gcd ≤ 64 = bit_length_most gcd h in
    (reached_most gcd p (omega arith) (reached_under (in_f32 gcd) p (omega arith) round.0), most (exponent_of gcd) (exponent_most gcd) (exponent_reached gcd some) round.1)
  where
    most : (e : ℕ) → e ≤ 64 → Reached (in_f32 gcd) e → in_f32 gcd ≤ 2 ^ (plain_exponent gcd + 1) → e ≤ plain_exponent gcd + 1
    most zero l r u = omega arith
    most (suc e) l r u =
        lt_of_not-le (λ (g : plain_exponent gcd + 1 ≤ e). not_reached (in_f32 gcd) e l (le_trans u (pow_mono {j = e} g)) r)
