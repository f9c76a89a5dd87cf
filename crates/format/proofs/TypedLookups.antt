-- Looking up by the value that stored numbers read as, over any reading that never reverses order.
--     row_words                                       a row reads as a number of 64 bits, in any column
--     tests_agree                                     tests that agree on such numbers find the same rows, and refuse the same
--     covered_lookup                                  a lookup by the value read is a lookup in a range of stored numbers that covers it
--     Spans, spans, any_lookup                        there is such a range, whatever the reading, if it never reverses order
--     signeds_keep, flags_keep, floats_keep           the readings never do
--     signed_covers, flag_covers, float_covers        and the ranges that callers hand on cover them
-- Assumes nothing.
use mathlib.Core.Path.{◌≡◌, refl, sym, ap, ◌∙◌, subst}
use mathlib.Core.Bool.{Bool, true, false, not, ◌&&◌, ◌||◌, true≢false, false≢true, and-eq-true_iff}
use mathlib.Core.Logic.{◌⊎◌, inl, inr}
use mathlib.Core.List.{List, [], ◌∷◌}
use Prim.Native.Nat.{ℕ, zero, suc, ◌+◌, ◌-◌, ◌*◌, ◌/◌, ◌^◌, ◌≤◌, ◌<◌, min, zero-le, suc-le-suc}
use native.Mathlib.Nat.{le_refl, le_trans, lt_of_le_of_lt, lt_of_lt_of_le, eq-or-lt_of_le, le_of_suc-le-suc, zero-lt-suc, mul_comm}
use native.Mathlib.Omega.{arith}
use lib.Dec.{T, leb, ltb, leb→le, le→leb, not_T, T_not, leb-zero, leb-suc-zero}
use lib.Ieee.Bits.{is_false}
use lib.IntN.{ℤ, pos, negsuc}
use lib.ListN.{length}
use lib.Signed.{mag, le_z}
use borrow.Author.Tests.{ltb-true, leb-true, le-leb, lt-leb, lt-ltb, le-ltb}
use Rattle.format.specs.declared.Codec.{Codec}
use Rattle.format.specs.declared.Codec.TheVariants.{Bitpacked, Linear, Blockwise}
use Rattle.format.specs.declared.Block.{Block}
use Rattle.format.specs.declared.Column.{Column}
use Rattle.format.specs.declared.Range.{Range}
use Rattle.format.specs.Outcome.{Outcome, Outcome.value, Outcome.refusal}
use Rattle.format.specs.Reading.{column_row, window_fits, column_fits, row_fits, fits, packed_of, block_at, scaled, value_in, value_at, asked_as, row_in, row_at}
use Rattle.format.specs.Lookup.{passes, rows_passing, looked_up, within}
use Rattle.format.specs.Typed.{Reading, Keeps, Covers, between, signeds, flags, floats, signed_range, flag_range, float_range, stored_signed, signed_of, stored_flag, flag_of, stored_float}
use Rattle.format.proofs.Tests.{or_true}
use Rattle.format.proofs.Lists.{below_or}
use Rattle.format.proofs.Outcomes.{not_value, by_demand, value_same}
use Rattle.format.proofs.Runs.{scaled_below}
use Rattle.format.proofs.Lookups.{within_both}
use Rattle.format.proofs.Mappings.{signed_order, read_order, stored_back, signed_in, bits_back, flag_rises}

-- ---- a row reads as a number of 64 bits

-- every number that a reading gives has 64 bits
abbrev pub Words : (read : ℕ → Outcome ℕ) → Type 0
Words read = (r u : ℕ) → read r ≡ value u → u < 2 ^ 64

-- the head's bounds are tested
bounds_small : (col : Column) (blocks : ℕ) (b : Block) (s : List ℕ) (r : ℕ) → fits col blocks b s r ≡ true → col.minimum + col.count * col.gcd < 2 ^ 64
unfolding fits column_fits
bounds_small col blocks b s r e =
    let step = ltb 0 col.gcd in
    let bounds = ltb (col.minimum + col.count * col.gcd) (2 ^ 64) in
    let column = ((and-eq-true_iff (column_fits col s) (row_fits col blocks b r)).0 e).0 in
    let two = (and-eq-true_iff (window_fits col && step && bounds) (leb (col.start + col.size) (length s))).0 column in
    ltb-true _ _ ((and-eq-true_iff (window_fits col && step) bounds).0 two.0).1

scaled-words : (col : Column) (r n u : ℕ) → col.minimum + col.count * col.gcd < 2 ^ 64 → scaled col r n ≡ value u → u < 2 ^ 64
scaled-words col r n u h e = by_demand (leb n col.count) 14 (r ∷ []) (value (col.minimum + col.gcd * n)) e
    (λ test is. subst (λ (x : ℕ). x < 2 ^ 64) (value_same is) (scaled_below col.minimum col.gcd col.count n h (leb-true _ _ test)))

value_words : (codec : Codec) (col : Column) (b : Block) (r n u : ℕ) → col.minimum + col.count * col.gcd < 2 ^ 64 → value_in codec col b r n ≡ value u → u < 2 ^ 64
unfolding value_in
value_words Bitpacked col b r n u h e = scaled-words col r n u h e
value_words (Linear l w) col b r n u h e =
    by_demand (within col.minimum (col.minimum + col.gcd * col.count) _) 14 (r ∷ []) (value _) e
    (λ test is. let turned = mul_comm col.count col.gcd in
    subst (λ (x : ℕ). x < 2 ^ 64) (value_same is) (lt_of_le_of_lt {m = col.minimum + col.gcd * col.count} (within_both _ _ _ test).1 (omega arith)))
value_words Blockwise col b r n u h e = scaled-words col r _ u h e

-- a row named otherwise has the same value
asked_value : (r : ℕ) (o : Outcome ℕ) (u : ℕ) → asked_as r o ≡ value u → o ≡ value u
asked_value r (value v) u e = e
asked_value r (refusal number also) u e = absurd (not_value e)

pub row_words : (col : Column) (t : List Block) (s : List ℕ) → Words (row_at col t s)
unfolding row_in
row_words col t s r u e =
    let q = column_row col r in
    let b = block_at t (q / 512) in
    by_demand (ltb r col.window.rows) 12 [] _ e
    (λ inside rest. by_demand (fits col (length t) b s q) 13 [] _ rest
    (λ fit is. value_words col.codec col b q (packed_of col b s q) u (bounds_small col (length t) b s q fit) (asked_value r (value_at col b s q) u is)))

-- ---- tests that agree on numbers of 64 bits

module _ (read : ℕ → Outcome ℕ) (words : Words read) (p q : ℕ → Bool) (same : (u : ℕ) → u < 2 ^ 64 → p u ≡ q u) where
  passes_agree : (o : Outcome ℕ) → ((u : ℕ) → o ≡ value u → u < 2 ^ 64) → passes p o ≡ passes q o
  passes_agree (value u) h = same u (h u refl)
  passes_agree (refusal n also) h = refl

  pub passing_same : (r n : ℕ) → rows_passing read p r n ≡ rows_passing read q r n
  unfolding rows_passing
  passing_same r zero = refl
  passing_same r (suc n) = rw (passes_agree (read r) (words r), passing_same (suc r) n)

  pub tests_agree : (rows first end room : ℕ) → looked_up read rows p first end room ≡ looked_up read rows q first end room
  unfolding looked_up
  tests_agree rows first end room = rw (passing_same first (min end rows - first))

-- so a lookup by the value read is one in a range of stored numbers that covers it
pub covered_lookup : (R : Reading) (low high : R.Value) (range : Range) → Covers R low high range → (read : ℕ → Outcome ℕ) → Words read → (rows first end room : ℕ)
    → looked_up read rows (between R low high) first end room ≡ looked_up read rows (within range.low range.high) first end room
covered_lookup R low high range covers read words = tests_agree read words (between R low high) (within range.low range.high) covers

-- ---- any reading that never reverses order has such a range

-- a test that stays true once it is true is true from a first number on, among the numbers below n
record Cut (p : ℕ → Bool) (n : ℕ) : Type 0 where
  first : ℕ
  few : first ≤ n
  from : (u : ℕ) → u < n → p u ≡ leb first u

cut : (p : ℕ → Bool) (n : ℕ) → ((u w : ℕ) → u ≤ w → w < n → T (p u) → T (p w)) → Cut p n
cut p zero up = record { first = 0; few = zero-le; from = λ u h. absurd (none u h) }
  where
    none : (u : ℕ) → u < 0 → ⊥
    none u h = omega arith
cut p (suc n) up = go (p n) refl (cut p n (λ u w h k. up u w h (later k)))
  where
    later : {w : ℕ} → w < n → w < suc n
    later h = omega arith

    last : (u : ℕ) → u < suc n → (u ≡ n) ⊎ (u < n)
    last u h = eq-or-lt_of_le (le_of_suc-le-suc h)

    go : (b : Bool) → p n ≡ b → Cut p n → Cut p (suc n)
    go true e c = record { first = c.first; few = omega (arith, c.few); from = λ u h. by u (last u h) }
      where
        by : (u : ℕ) → (u ≡ n) ⊎ (u < n) → p u ≡ leb c.first u
        by u (inl q) = ap p q ∙ e ∙ sym (le-leb c.first u (subst (λ (m : ℕ). c.first ≤ m) (sym q) c.few))
        by u (inr l) = c.from u l
    go false e c =
        record { first = suc n; few = le_refl (suc n); from = λ u h. is_false (p u) (not_T (p u) (λ t. low u h t)) ∙ sym (lt-leb (suc n) u h) }
      where
        low : (u : ℕ) → u < suc n → T (p u) → ⊥
        low u h t = subst T e (up u n (le_of_suc-le-suc h) (le_refl (suc n)) t)

-- not from p on is below p
turned : (b : Bool) (u p : ℕ) → not b ≡ leb p u → b ≡ ltb u p
turned b u p e = go b e (below_or u p)
  where
    go : (b : Bool) → not b ≡ leb p u → (u < p) ⊎ (p ≤ u) → b ≡ ltb u p
    go true e (inl l) = sym (lt-ltb u p l)
    go true e (inr g) = absurd (false≢true (e ∙ le-leb p u g))
    go false e (inl l) = absurd (true≢false (e ∙ lt-leb p u l))
    go false e (inr g) = sym (le-ltb u p g)

-- a range of stored numbers that holds just the numbers which pass a test
pub record Spans (p : ℕ → Bool) : Type 0 where
  pub range : Range
  pub from : range.low < 2 ^ 64
  pub to : range.high < 2 ^ 64
  pub holds : (u : ℕ) → u < 2 ^ 64 → p u ≡ within range.low range.high u

-- of none: 1 to 0
spans_none : (p : ℕ → Bool) → ((u : ℕ) → u < 2 ^ 64 → p u ≡ false) → Spans p
spans_none p h = record { range = record { low = 1; high = 0 }; from = omega arith; to = omega arith; holds = λ u k. h u k ∙ sym (empty u) }
  where
    empty : (u : ℕ) → within 1 0 u ≡ false
    empty u = elim (below_or u 1) [
      | inl l ↦ rw (lt-leb 1 u l)
      | inr g ↦ rw (le-leb 1 u g, lt-leb u 0 g)
    ]

-- of those from a to before b
spans_run : (p : ℕ → Bool) (a b : ℕ) → b ≤ 2 ^ 64 → ((u : ℕ) → u < 2 ^ 64 → p u ≡ (leb a u && ltb u b)) → Spans p
spans_run p a zero most h = spans_none p (λ u k. h u k ∙ rw (le-ltb u 0 zero-le) (and_false (leb a u)))
  where
    and_false : (t : Bool) → (t && false) ≡ false
    and_false true = refl
    and_false false = refl
spans_run p a (suc b) most h = elim (below_or a (2 ^ 64)) [
  | inl l ↦ record { range = record { low = a; high = b }; from = l; to = most; holds = λ u k. h u k ∙ ap (λ t. leb a u && t) (last u) }
  | inr g ↦ spans_none p (λ u k. h u k ∙ rw (lt-leb a u (lt_of_lt_of_le k g)))
]
  where
    last : (u : ℕ) → ltb u (suc b) ≡ leb u b
    last u = elim (below_or b u) [
      | inl l ↦ le-ltb u (suc b) l ∙ sym (lt-leb u b l)
      | inr g ↦ lt-ltb u (suc b) (suc-le-suc g) ∙ sym (le-leb u b g)
    ]

module _ (R : Reading) (k : Keeps R) (low high : R.Value) where
  from_low : Cut (λ u. R.at_most low (R.value u)) (2 ^ 64)
  from_low = cut (λ u. R.at_most low (R.value u)) (2 ^ 64) (λ u w h l t. k.chains low (R.value u) (R.value w) t (k.keeps u w h l))

  past_high : Cut (λ u. not (R.at_most (R.value u) high)) (2 ^ 64)
  past_high = cut (λ u. not (R.at_most (R.value u) high)) (2 ^ 64)
      (λ u w h l t. not_T (R.at_most (R.value w) high) (λ s. T_not (R.at_most (R.value u) high) t (k.chains (R.value u) (R.value w) high (k.keeps u w h l) s)))

  -- the values from low to high are those of a range of stored numbers
  pub spans : Spans (between R low high)
  spans = spans_run (between R low high) from_low.first past_high.first past_high.few
      (λ u h. ap (λ t. t && R.at_most (R.value u) high) (from_low.from u h)
      ∙ ap (λ t. leb from_low.first u && t) (turned (R.at_most (R.value u) high) u past_high.first (past_high.from u h)))

  -- and so looking them up is looking up that range
  pub any_lookup : (read : ℕ → Outcome ℕ) → Words read → (rows first end room : ℕ)
      → looked_up read rows (between R low high) first end room ≡ looked_up read rows (within spans.range.low spans.range.high) first end room
  any_lookup = covered_lookup R low high spans.range spans.holds

-- ---- the readings never reverse order

le_z_trans : (x y z : ℤ) → T (le_z x y) → T (le_z y z) → T (le_z x z)
le_z_trans (pos a) (pos b) (pos c) s t = le→leb a c (le_trans (leb→le a b s) (leb→le b c t))
le_z_trans (negsuc a) (pos b) (pos c) s t = tt
le_z_trans (negsuc a) (negsuc b) (pos c) s t = tt
le_z_trans (negsuc a) (negsuc b) (negsuc c) s t = le→leb c a (le_trans (leb→le c b t) (leb→le b a s))
le_z_trans (pos a) (pos b) (negsuc c) s t = elim t [ ]
le_z_trans (pos a) (negsuc b) z s t = elim s [ ]
le_z_trans (negsuc a) (pos b) (negsuc c) s t = elim t [ ]

pub signeds_keep : Keeps signeds
signeds_keep = record {
  keeps = λ u w h l. subst T (sym (read_order u w (lt_of_le_of_lt h l) l)) (le→leb u w h);
  chains = le_z_trans;
}

pub floats_keep : Keeps floats
floats_keep = record {
  keeps = λ u w h l. rw (bits_back u (lt_of_le_of_lt h l), bits_back w l) (le→leb u w h);
  chains = λ x y z s t. le→leb (stored_float x) (stored_float z) (le_trans (leb→le (stored_float x) (stored_float y) s) (leb→le (stored_float y) (stored_float z) t));
}

pub flags_keep : Keeps flags
flags_keep = record { keeps = λ u w h l. implies (flag_of u) (flag_of w) (flag_rises u w h); chains = chain }
  where
    implies : (a b : Bool) → (T a → T b) → T (not a || b)
    implies true b h = h tt
    implies false b h = tt

    chain : (x y z : Bool) → T (not x || y) → T (not y || z) → T (not x || z)
    chain true true z s t = t
    chain true false z s t = absurd s
    chain false y z s t = tt

-- ---- the ranges that callers hand on

pub signed_covers : (low high : ℤ) → mag low < 2 ^ 63 → mag high < 2 ^ 63 → Covers signeds low high (signed_range low high)
signed_covers low high a b u h =
    let s : stored_signed (signed_of u) ≡ u = stored_back u h in
    let m : mag (signed_of u) < 2 ^ 63 = signed_in u h in
    ap (λ t. t && le_z (signed_of u) high) (sym (signed_order low (signed_of u) a m) ∙ ap (λ v. leb (stored_signed low) v) s)
    ∙ ap (λ t. leb (stored_signed low) u && t) (sym (signed_order (signed_of u) high m b) ∙ ap (λ v. leb v (stored_signed high)) s)

-- any bits, a NaN's too
pub float_covers : (low high : ℕ) → Covers floats low high (float_range low high)
float_covers low high u h = ap (λ v. leb (stored_float low) v && leb v (stored_float high)) (bits_back u h)

pub flag_covers : (low high : Bool) → Covers flags low high (flag_range low high)
flag_covers low high u h = ap (λ t. t && (not (flag_of u) || high)) (first low) ∙ ap (λ t. leb (stored_flag low) u && t) (last high)
  where
    first : (b : Bool) → (not b || flag_of u) ≡ leb (stored_flag b) u
    first true = refl
    first false = sym (leb-zero u)

    zero_only : (n : ℕ) → (not (flag_of n) || false) ≡ leb n 0
    zero_only zero = refl
    zero_only (suc n) = ap (λ t. not t || false) (lt-ltb 0 (suc n) (zero-lt-suc n)) ∙ sym (leb-suc-zero n)

    last : (b : Bool) → (not (flag_of u) || b) ≡ leb u (flag_range b b).high
    last true = or_true (not (flag_of u)) ∙ sym (le-leb u (2 ^ 64 - 1) (omega arith))
    last false = zero_only u
