-- A line that goes one way.
--     power_is, full, gentle          what the code tests
--     climbs, sinks                   a line's height, where the product does not reach the sign
--     stays                           so the places between two lie no higher than the higher of them
-- Assumes nothing.
use Prim.Native.Nat.{ℕ, ◌+◌, ◌-◌, ◌*◌, ◌/◌, ◌%◌, ◌^◌, ◌≤◌, ◌<◌, min, max}
use mathlib.Core.Bool.{true}
use mathlib.Core.Logic.{inl, inr, ⊎_elim}
use mathlib.Core.Path.{◌≡◌, refl, sym, ap, ◌∙◌}
use native.Mathlib.Nat.{le_trans, lt_of_le_of_lt, mul-le-mul_right, mul_comm, mul-add, le-div_iff_mul-le}
use lib.Dec.{leb}
use lib.Pow.{pow_mono}
use native.Mathlib.Omega.{arith}
use borrow.Author.Tests.{leb-true}
use Rattle.format.specs.declared.Line.{Line}
use Rattle.format.specs.Line.{line_at}
use Rattle.format.specs.Packing.{width}
use Rattle.format.specs.Word.{mod_add, mod_sub, mod_mul, signed32}
use Rattle.format.proofs.Lines.{line_below}
use Rattle.format.proofs.Lists.{below_or}
use Rattle.format.proofs.Words.{signed_low, signed_high}
use Rattle.read_bounds.specs.Looks.{Gentle, Near}

-- ---- what the code tests

pub power_is : (bits : ℕ) → bits ≤ 56 → ((1 * 2 ^ bits) % 2 ^ 64 ≡ 2 ^ bits) × ((1 * 2 ^ bits) % 2 ^ 64 ≤ 2 ^ 56)
power_is bits h = let most : 2 ^ bits ≤ 2 ^ 56 = pow_mono h in (omega arith, omega arith)

pub full : (count bits w p : ℕ) → p ≡ 2 ^ bits → bits ≡ w → w ≡ width count → leb (p - 1) count ≡ true → 2 ^ width count ≤ count + 1
full count bits w p e a b t = rw (← b, ← a, ← e) (omega (arith, leb-true (p - 1) count t))

-- a product that a quotient bounds
bounded_by : (slope to : ℕ) → slope ≤ 9223372036854775807 / (to + 1) → to * slope < 2 ^ 63
bounded_by slope to h =
    let most : slope * (to + 1) ≤ 9223372036854775807 = (le-div_iff_mul-le {k = to + 1} {x = slope} {y = 9223372036854775807} (omega arith)).0 h in
    omega (arith, mul_comm to slope)

pub gentle : (slope back least to : ℕ) → slope < 2 ^ 64 → back ≡ mod_sub 0 slope → least ≡ min slope back → leb least (9223372036854775807 / (to + 1)) ≡ true → Gentle slope to
gentle slope back least to fits e f t =
    let h = leb-true least (9223372036854775807 / (to + 1)) t in
    ⊎_elim
    (λ (less : slope < back). inl (bounded_by slope to (omega arith)))
    (λ (more : back ≤ slope). by_slope more h)
    (below_or slope back)
  where
    by_slope : back ≤ slope → least ≤ 9223372036854775807 / (to + 1) → Gentle slope to
    by_slope more h =
        ⊎_elim
        (λ (none : slope < 1). inl (bounded_by slope to (omega arith)))
        (λ (some : 1 ≤ slope). inr (omega arith, bounded_by (2 ^ 64 - slope) to (omega arith)))
        (below_or slope 1)

-- ---- a line's height

-- rising
climbs : (l : Line) (x : ℕ) → x * l.slope < 2 ^ 63 → line_at l x ≡ mod_add l.intercept (x * l.slope / 2 ^ 32)
unfolding line_at
climbs l x h =
    let same : mod_mul x l.slope / 2 ^ 32 ≡ x * l.slope / 2 ^ 32 = omega arith in
    let low : x * l.slope / 2 ^ 32 < 2 ^ 31 = omega arith in
    rw (same, signed_low (x * l.slope / 2 ^ 32) low)

-- a product with the slope, by the one with what the slope lacks of 2^64
turned : (x slope : ℕ) → slope ≤ 2 ^ 64 → x * slope + x * (2 ^ 64 - slope) ≡ x * 2 ^ 64
turned x slope h = let whole : slope + (2 ^ 64 - slope) ≡ 2 ^ 64 = omega arith in sym (mul-add x slope (2 ^ 64 - slope)) ∙ ap (λ (y : ℕ). x * y) whole

-- how far a line has sunk by a product
abbrev depth : (m : ℕ) → ℕ
depth m = (m + 4294967295) / 2 ^ 32

-- the upper half of what a product lacks of 2^64, read as signed
sunk : (a m x : ℕ) → a + m ≡ x * 2 ^ 64 → m < 2 ^ 63 → mod_add (signed32 (a % 2 ^ 64 / 2 ^ 32)) (depth m) ≡ 0
sunk a m x e h =
    ⊎_elim
    (λ (none : m < 1).
    let z : a % 2 ^ 64 ≡ 0 = omega arith in
    let y : a % 2 ^ 64 / 2 ^ 32 ≡ 0 = omega arith in
    rw (y, signed_low 0 (omega arith)) (omega arith))
    (λ (some : 1 ≤ m).
    let z : a % 2 ^ 64 ≡ 2 ^ 64 - m = omega arith in
    let y : a % 2 ^ 64 / 2 ^ 32 ≡ 2 ^ 32 - depth m = rw z (omega arith) in
    rw (y, signed_high (2 ^ 32 - depth m) (omega arith)) (omega arith))
    (below_or m 1)

-- falling: with its depth it is the intercept
sinks : (l : Line) (x : ℕ) → l.slope ≤ 2 ^ 64 → x * (2 ^ 64 - l.slope) < 2 ^ 63 → mod_add (line_at l x) (depth (x * (2 ^ 64 - l.slope))) ≡ l.intercept % 2 ^ 64
unfolding line_at
sinks l x h small =
    joined l.intercept (signed32 (mod_mul x l.slope / 2 ^ 32)) (depth (x * (2 ^ 64 - l.slope)))
    (sunk (x * l.slope) (x * (2 ^ 64 - l.slope)) x (turned x l.slope h) small)
  where
    joined : (i s d : ℕ) → mod_add s d ≡ 0 → mod_add (mod_add i s) d ≡ i % 2 ^ 64
    joined i s d e = omega arith

-- ---- between two places

-- two heights, one a difference up from the other
apart : (i p q y z : ℕ) → p ≤ q → y ≡ mod_add i p → z ≡ mod_add i q → z ≡ mod_add y (q - p)
apart i p q y z h a b = omega arith

-- the same, by their depths
apart_down : (i p q y z : ℕ) → p ≤ q → z < 2 ^ 64 → mod_add z p ≡ i → mod_add y q ≡ i → z ≡ mod_add y (q - p)
apart_down i p q y z h f a b = omega arith

-- a number more
more : (y d z n v : ℕ) → z ≡ mod_add y d → v ≡ mod_add z n → v ≡ mod_add y (d + n)
more y d z n v a b = omega arith

-- and how far that is above low
above : (y e low start v : ℕ) → y < 2 ^ 64 → low < 2 ^ 64 → start ≡ mod_sub y low → start < 2 ^ 62 → e < 2 ^ 62 → v ≡ mod_add y e → mod_sub v low ≡ start + e
above y e low start v fits small is a b made = omega arith

-- a place d up from the lower end y, no higher than the upper end, which is u up
below_top : (y d u z number power low start top span : ℕ) → y < 2 ^ 64 → low < 2 ^ 64 → start ≡ mod_sub y low → start < 2 ^ 62 → d ≤ u → u < 2 ^ 32 → mod_sub (mod_add y u) low ≤ top → z ≡ mod_add y d
    → number < power → power ≤ 2 ^ 56 → top + (power - 1) ≤ span → mod_sub (mod_add z number) low ≤ span
below_top y d u z number power low start top span fits small is early order near high at number_fits narrow enough =
    let up : mod_sub (mod_add y u) low ≡ start + u = above y u low start (mod_add y u) fits small is early (omega arith) refl in
    let here : mod_sub (mod_add z number) low ≡ start + (d + number) = above y (d + number) low start (mod_add z number) fits small is early (omega arith) (more y d z number (mod_add z number) at refl) in
    rw here (least start d u number power top span (rw up at high) order number_fits enough)
  where
    least : (start d u number power top span : ℕ) → start + u ≤ top → d ≤ u → number < power → top + (power - 1) ≤ span → start + (d + number) ≤ span
    least start d u number power top span a b c e = omega arith

left-max : (a b t : ℕ) → t ≡ max a b → a ≤ t
left-max a b t e = omega arith

right_max : (a b t : ℕ) → t ≡ max a b → b ≤ t
right_max a b t e = omega arith

-- upper halves of products in order, and of one below 2^63
halves : (a b : ℕ) → a ≤ b → a / 2 ^ 32 ≤ b / 2 ^ 32
halves a b h = omega arith

half_small : (a p : ℕ) → a < 2 ^ 63 → a / 2 ^ 32 - p < 2 ^ 32
half_small a p h = omega arith

-- steps up to one place and to another behind it
ups : (p q t : ℕ) → q ≤ t → q - p ≤ t - p
ups p q t h = omega arith

module _ (l : Line) (bits from to low span start end top : ℕ) (order : from ≤ to) (small : low < 2 ^ 64) (narrow : 2 ^ bits ≤ 2 ^ 56)
    (starts : start ≡ mod_sub (line_at l from) low) (ends : end ≡ mod_sub (line_at l to) low) (tops : top ≡ max start end) (early : top < 2 ^ 62) (enough : top + (2 ^ bits - 1) ≤ span) where
  rises : to * l.slope < 2 ^ 63 → Near l bits from to low span
  rises product = record {
    near = λ (x number : ℕ) (a : from ≤ x) (b : x ≤ to) (h : number < 2 ^ bits).
        let here : from * l.slope ≤ x * l.slope = mul-le-mul_right l.slope a in
        let there : x * l.slope ≤ to * l.slope = mul-le-mul_right l.slope b in
        let p = from * l.slope / 2 ^ 32 in
        let q = x * l.slope / 2 ^ 32 in
        let t = to * l.slope / 2 ^ 32 in
        let first = climbs l from (lt_of_le_of_lt (le_trans here there) product) in
        let at = climbs l x (lt_of_le_of_lt there product) in
        let last : line_at l to ≡ mod_add (line_at l from) (t - p) = apart l.intercept p t (line_at l from) (line_at l to) (halves _ _ (le_trans here there)) first (climbs l to product) in
        below_top (line_at l from) (q - p) (t - p) (line_at l x) number (2 ^ bits) low start top span (line_below l from) small starts (lt_of_le_of_lt (left-max start end top tops) early)
        (ups p q t (halves _ _ there)) (half_small _ p product) (rw (← last, ← ends) (right_max start end top tops))
        (apart l.intercept p q (line_at l from) (line_at l x) (halves _ _ here) first at) h narrow enough;
  }

  falls : to * (2 ^ 64 - l.slope) < 2 ^ 63 → l.slope ≤ 2 ^ 64 → Near l bits from to low span
  falls product slope = record {
    near = λ (x number : ℕ) (a : from ≤ x) (b : x ≤ to) (h : number < 2 ^ bits).
        let s = 2 ^ 64 - l.slope in
        let here : from * s ≤ x * s = mul-le-mul_right s a in
        let there : x * s ≤ to * s = mul-le-mul_right s b in
        let p = depth (from * s) in
        let q = depth (x * s) in
        let t = depth (to * s) in
        let last = sinks l to slope product in
        let first : line_at l from ≡ mod_add (line_at l to) (t - p) = apart_down (l.intercept % 2 ^ 64) p t (line_at l to) (line_at l from) (omega arith) (line_below l from) (sinks l from slope (omega arith)) last in
        below_top (line_at l to) (t - q) (t - p) (line_at l x) number (2 ^ bits) low end top span (line_below l to) small ends (lt_of_le_of_lt (right_max start end top tops) early) (omega arith) (omega arith)
        (rw (← first, ← starts) (left-max start end top tops)) (apart_down (l.intercept % 2 ^ 64) q t (line_at l to) (line_at l x) (omega arith) (line_below l x) (sinks l x slope (omega arith)) last) h narrow enough;
  }

  pub stays : Gentle l.slope to → Near l bits from to low span
  stays (inl up) = rises up
  stays (inr down) = falls down.1 down.0
