-- The search for a gcd's exponent, bound after bound; and the saving that follows from it.
--     Search, search_start, search_turn, search_end     the exponent
--     saving_small, saving_is                           the quotient before its cut, and the saving
-- Assumes nothing.
use Rattle.std.proofs.Common.{◌≡◌, ℕ, suc, ◌+◌, ◌*◌, ◌^◌, ◌<◌, ◌≤◌, Bool, true, false, T, List, ◌∷◌, get_or, drop, pos, sym, refl, ap, ◌∙◌, subst, lt_of_lt_of_le, add-one, arith, lit≤, drop-cons, pow_mono}
use lib.Ieee.{Float, fin, binary32, mul, div, lt, le, of_int, of_bits, to_unsigned}
use lib.Ieee.Exact.{HasValue}
use Rattle.format.specs.Outcome.{pick}
use Rattle.format.specs.Saving.{in_f32, reaches, power_bounds, last_reached, exponent_of, saving}
use Rattle.format.proofs.Savings.{in_f32_most, bound_sound, exponent_most}
use Rattle.float.proofs.Rounded.{reaches_is, product_few, product_value, eighth_value, cut_is, cut_above, cut_below}

-- ---- the exponent

-- what the bounds from k on still give
pub record Search (gcd : ℕ) (x : Float) (last k : ℕ) : Type 0 where
  pub word : gcd < 2 ^ 64
  pub rounded : x ≡ of_int binary32 (pos gcd)
  pub most : k ≤ 65
  pub rest : last_reached (in_f32 gcd) last k (drop k power_bounds) ≡ exponent_of gcd

pub search_start : (gcd : ℕ) (x : Float) → gcd < 2 ^ 64 → x ≡ of_int binary32 (pos gcd) → Search gcd x 0 0
unfolding exponent_of
search_start gcd x w e = record { word = w; rounded = e; most = omega arith; rest = refl }

-- one bound is tried
turn : (n last k b : ℕ) (bs : List ℕ) (t : Bool) → t ≡ reaches n b → last_reached n (pick t k last) (suc k) bs ≡ last_reached n last k (b ∷ bs)
unfolding last_reached
turn n last k b bs t e = rw e

pub search_turn : (gcd : ℕ) (x : Float) (last k next : ℕ) → Search gcd x last k → k < 65
    → next ≡ pick (le (of_bits binary32 (get_or power_bounds k 0)) x) k last → Search gcd x next (k + 1)
search_turn gcd x last k next s h e =
    let b = get_or power_bounds k 0 in
    let same : le (of_bits binary32 b) x ≡ reaches (in_f32 gcd) b = ap (le (of_bits binary32 b)) s.rounded ∙ reaches_is gcd b (lt_of_lt_of_le s.word (pow_mono {i = 64} {j = 100} (lit≤ tt))) (bound_sound k h) in
    let parts : drop k power_bounds ≡ b ∷ drop (suc k) power_bounds = drop-cons power_bounds k 0 (unfold power_bounds in h) in
    record {
      word = s.word;
      rounded = s.rounded;
      most = omega arith;
      rest = rw (e, add-one k) (turn (in_f32 gcd) last k b (drop (suc k) power_bounds) (le (of_bits binary32 b) x) same ∙ ap (last_reached (in_f32 gcd) last k) (sym parts) ∙ s.rest);
    }

pub search_end : (gcd : ℕ) (x : Float) (last k : ℕ) → Search gcd x last k → 65 ≤ k → last ≡ exponent_of gcd
search_end gcd x last k s h =
    let all : k ≡ 65 = omega (arith, s.most) in
    done k all s.rest
  where
    done : (k : ℕ) → k ≡ 65 → last_reached (in_f32 gcd) last k (drop k power_bounds) ≡ exponent_of gcd → last ≡ exponent_of gcd
    done k e r = unfold last_reached power_bounds in subst (λ (j : ℕ). last_reached (in_f32 gcd) last j (drop j power_bounds) ≡ exponent_of gcd) e r

-- ---- the saving

-- the product's eighth as f32
abbrev pub quotient : (e : ℕ) (x : Float) → Float
quotient e x = div binary32 (mul binary32 (of_int binary32 (pos e)) x) (fin false 1 (pos 3))

quotient_value : (gcd rows e : ℕ) (x : Float) → e ≡ exponent_of gcd → x ≡ of_int binary32 (pos rows) → rows < 2 ^ 32
    → HasValue (quotient e x) false (in_f32 (exponent_of gcd * in_f32 rows)) 8
quotient_value gcd rows e x p q h =
    let few = exponent_most gcd in
    rw (p, q)
    (eighth_value (mul binary32 (of_int binary32 (pos (exponent_of gcd))) (of_int binary32 (pos rows))) (exponent_of gcd * in_f32 rows)
    (lt_of_lt_of_le (product_few (exponent_of gcd) rows few h) (pow_mono {i = 42} {j = 64} (lit≤ tt)))
    (product_value (exponent_of gcd) rows few h))

rounded_few : (gcd rows : ℕ) → rows < 2 ^ 32 → in_f32 (exponent_of gcd * in_f32 rows) < 2 ^ 64
rounded_few gcd rows h = omega (arith, in_f32_most (exponent_of gcd * in_f32 rows), product_few (exponent_of gcd) rows (exponent_most gcd) h)

-- the cut is defined
pub saving_small : (gcd rows e : ℕ) (x : Float) → e ≡ exponent_of gcd → x ≡ of_int binary32 (pos rows) → rows < 2 ^ 32
    → T (lt (fin true 1 (pos 0)) (quotient e x)) × T (lt (quotient e x) (fin false 1 (pos 64)))
saving_small gcd rows e x p q h =
    let v = quotient_value gcd rows e x p q h in
    (cut_above (quotient e x) _ v, cut_below (quotient e x) _ (rounded_few gcd rows h) v)

-- and gives the saving
pub saving_is : (gcd rows e r : ℕ) (x : Float) → e ≡ exponent_of gcd → x ≡ of_int binary32 (pos rows) → rows < 2 ^ 32 → r ≡ to_unsigned 64 (quotient e x) → r ≡ saving gcd rows
unfolding saving
saving_is gcd rows e r x p q h s = s ∙ cut_is (quotient e x) (in_f32 (exponent_of gcd * in_f32 rows)) (rounded_few gcd rows h) (quotient_value gcd rows e x p q h)
