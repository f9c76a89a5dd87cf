-- Deviations, and the fit that they give.
--     deviations-length, deviation_at_lem                          one for each value
--     Spreading, spreading_starts, spreading_next, spreading_ends
--                                                              the walk for the least and the greatest
--     made_first                                                   a list that a function made is the first values
--     low_high, fit_is                                         the fit from a spread
-- Assumes nothing.
use mathlib.Core.Logic.{⊎_elim}
use mathlib.Core.Path.{◌≡◌, sym, ap, ◌∙◌, subst}
use mathlib.Core.List.{List}
use Prim.Native.Nat.{ℕ, zero, suc, ◌+◌, ◌-◌, ◌^◌, ◌≤◌, ◌<◌, min, max}
use native.Mathlib.Nat.{eq-or-lt_of_le}
use native.Mathlib.Omega.{arith}
use lib.ListN.{length, get_or, take, drop, length-map}
use lib.Seq.{get_or-take}
use Rattle.std.proofs.lemmas.Grind.{same_number_lists}
use Rattle.std.proofs.lemmas.List.{length-take-le}
use Rattle.std.specs.Array.{IsFromFnResult, IsFromFnResultFrom}
use Rattle.std.specs.Fn.{Called}
use denote.Param.Members.{Mut}
use Rattle.format.specs.declared.Line.{Line}
use Rattle.format.specs.Word.{mod_add, mod_sub}
use Rattle.format.specs.Packing.{width}
use Rattle.format.specs.Stats.{fold_from, least, greatest}
use Rattle.format.specs.Line.{line_at, residuals}
use Rattle.format.specs.Bodies.{half, deviations, first_line, linear_line, linear_width}
use Rattle.format.proofs.Lists.{map_at}
use Rattle.format.proofs.Folds.{fold_step, fold_end, reduce_start}
use Rattle.format.proofs.Lines.{residuals-length, residual_at}
use Rattle.format.proofs.Words.{add_below}
use Rattle.stats.proofs.Described.{ordered}
use Rattle.linear_estimator.specs.declared.Spread.{Spread}
use Rattle.linear_estimator.specs.Writer.{Spreads, Fits}

-- ---- one for each value

-- a value's deviation, as it is defined
abbrev pub deviation_at : Line → (x y : ℕ) → ℕ
deviation_at l x y = mod_add (mod_sub y (line_at l x)) half

pub deviations-length : (l : Line) (vs : List ℕ) → length (deviations l vs) ≡ length vs
unfolding deviations
deviations-length l vs = length-map (residuals l vs) _ ∙ residuals-length l vs

pub deviation_at_lem : (l : Line) (vs : List ℕ) (i : ℕ) → i < length vs → get_or (deviations l vs) i 0 ≡ deviation_at l i (get_or vs i 0)
unfolding deviations
deviation_at_lem l vs i h =
    map_at (λ d. mod_add d half) (residuals l vs) i (rw residuals-length h) ∙ ap (λ (d : ℕ). mod_add d half) (residual_at l vs i h)

-- ---- the walk for the least and the greatest

-- the least and the greatest so far, and of the rest, are those of all
pub record Spreading (l : Line) (vs : List ℕ) (low high i : ℕ) : Type 0 where
  pub lows : fold_from min low (drop i (deviations l vs)) ≡ least (deviations l vs)
  pub highs : fold_from max high (drop i (deviations l vs)) ≡ greatest (deviations l vs)

pub spreading_starts : (l : Line) (vs : List ℕ) → 0 < length vs → Spreading l vs (2 ^ 64 - 1) 0 0
spreading_starts l vs h =
    let ds = deviations l vs in
    let some : 0 < length ds = rw deviations-length h in
    let small : get_or ds 0 0 < 2 ^ 64 = rw (deviation_at_lem l vs 0 h) (add_below _ _) in
    let least_of : min (2 ^ 64 - 1) (get_or ds 0 0) ≡ get_or ds 0 0 = omega arith in
    let greatest_of : max 0 (get_or ds 0 0) ≡ get_or ds 0 0 = omega arith in
    record {
      lows = fold_step min (2 ^ 64 - 1) ds 0 some ∙ rw least_of (reduce_start min ds some);
      highs = fold_step max 0 ds 0 some ∙ rw greatest_of (reduce_start max ds some);
    }

module _ {l : Line} {vs : List ℕ} {low high i : ℕ} (s : Spreading l vs low high i) where
  pub spreading_next : {d a b : ℕ} → i < length vs → d ≡ deviation_at l i (get_or vs i 0) → a ≡ min low d → b ≡ max high d → Spreading l vs a b (i + 1)
  spreading_next {d} {a} {b} h e p q =
      let ds = deviations l vs in
      let is : d ≡ get_or ds i 0 = e ∙ sym (deviation_at_lem l vs i h) in
      let inside : i < length ds = rw deviations-length h in
      record {
        lows = rw (p, is) (sym (fold_step min low ds i inside) ∙ s.lows);
        highs = rw (q, is) (sym (fold_step max high ds i inside) ∙ s.highs);
      }

  pub spreading_ends : length vs ≤ i → Spreads l vs (record { low = low; high = high })
  spreading_ends h =
      let ds = deviations l vs in
      let done : length ds ≤ i = rw deviations-length h in
      record { low = sym (fold_end min low ds i done) ∙ s.lows; high = sym (fold_end max high ds i done) ∙ s.highs }

-- ---- the first 512 values

-- a function that is called at one place after another, and stays itself, made a list of its answers
module _ {F : Type 0} {g : Mut F (ℕ × Unit {0}) ℕ} {f : F} (answer : ℕ → ℕ) (pure : (i y : ℕ) (q : F) → Called g f (i, tt) y q → (q ≡ f) × (y ≡ answer i)) (ys : List ℕ) where
  answers : (i n : ℕ) → IsFromFnResultFrom g f ys i n → (j : ℕ) → i ≤ j → j < i + n → get_or ys j 0 ≡ answer j
  answers i zero made j low high = absurd (omega arith)
  answers i (suc n) (q, y, is, called, rest) j low high =
      ⊎_elim
      (λ (e : i ≡ j). rw (← e) (is.1 0 ∙ (pure i y q called).1))
      (λ (less : i < j). answers (i + 1) n (subst (λ (p : F). IsFromFnResultFrom g p ys (i + 1) n) (pure i y q called).0 rest) j (omega arith) (omega arith))
      (eq-or-lt_of_le low)

  pub made_first : (vs : List ℕ) (n : ℕ) → IsFromFnResult g f ys n → n ≤ length vs → ((i : ℕ) → i < n → answer i ≡ get_or vs i 0) → ys ≡ take n vs
  made_first vs n made long is =
      same_number_lists ys (take n vs) (made.long ∙ sym (length-take-le n vs long))
      (λ (k : ℕ) (h : k < length ys).
      let inside : k < n = omega (arith, made.long) in
      answers 0 n made.each k (omega arith) (omega arith) ∙ is k inside ∙ sym (get_or-take n vs k 0 inside))

-- ---- the fit from a spread

pub low_high : {l : Line} {vs : List ℕ} {s : Spread} → Spreads l vs s → s.low ≤ s.high
low_high {l} {vs} s = rw (s.low, s.high) (ordered (deviations l vs))

pub fit_is : (vs : List ℕ) {l : Line} {s : Spread} {raised intercept w : ℕ} → l ≡ first_line vs → Spreads l vs s
    → raised ≡ mod_add l.intercept s.low → intercept ≡ mod_sub raised half → w ≡ width (s.high - s.low)
    → Fits vs (record { line = record { slope = l.slope; intercept = intercept }; bits = w })
unfolding linear_line linear_width
fit_is vs first s up down wide =
    record { line = rw (down, up, s.low, first); bits = rw (wide, s.low, s.high, first) }
