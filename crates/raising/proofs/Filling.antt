-- Rows whose values were made in a list, up to the first that is refused.
--     Nearing, near-ends, near_stops                                       a list that is looked through for a value beyond a span
--     raised_all, raised_up_to                                             a list that was raised, with no height above the limit, or up to the first
--     Scaling, scaling_starts, scaling_more, scaling_ends, scaling_stops   a list that is scaled
--     by_line                                                              multiples that are sums of numbers and a line
--     plain_row                                                            a row of a column whose gcd is 1
-- Assumes nothing.
use mathlib.Core.Path.{◌≡◌, refl, sym, ap, ◌∙◌}
use mathlib.Core.Bool.{Bool, true, false}
use mathlib.Core.Logic.{⊎_elim}
use mathlib.Core.List.{List, [], ◌∷◌}
use Prim.Native.Nat.{ℕ, ◌+◌, ◌*◌, ◌^◌, ◌≤◌, ◌<◌}
use native.Mathlib.Nat.{eq-or-lt_of_le, not-suc-le-zero, le_refl, le_trans, mul-one, one-mul}
use native.Mathlib.Omega.{arith}
use lib.Dec.{leb}
use lib.ListN.{length, get_or, set, length-set}
use lib.Seq.{get_or-set_same, get_or-set_other}
use borrow.Author.Tests.{le-leb, lt-leb, leb-true}
use Rattle.format.specs.declared.Column.{Column}
use Rattle.format.specs.declared.Line.{Line}
use Rattle.format.specs.Line.{line_at}
use Rattle.format.specs.Outcome.{Outcome, Outcome.value, ◌>>◌, demand}
use Rattle.format.specs.Reading.{scaled}
use Rattle.format.specs.Runs.{read_run}
use Rattle.format.specs.Word.{mod_add, mod_sub}
use Rattle.format.proofs.Runs.{Decoding, filled, bounded}
use Rattle.format.proofs.Words.{add_below}
use Rattle.raising.specs.Raising.{Raised, Within, above_line, reached, near, ReadBy, Fills}

-- ---- a value beyond a span

-- the values before entry i are within the span
pub record Nearing (low span : ℕ) (list : List ℕ) (i : ℕ) : Type 0 where
  pub sofar : (j : ℕ) → j < i → mod_sub (get_or list j 0) low ≤ span

module _ (low span : ℕ) (list : List ℕ) where
  module _ {i : ℕ} (f : Nearing low span list i) where
    -- the rows so far have values
    nears : (read : ℕ → Outcome ℕ) (first : ℕ) → ReadBy (λ (i r v : ℕ). near low span r v) read first list → i ≤ length list → Decoding read first list i
    nears read first by inside = record {
      sofar = λ (j : ℕ) (k : j < i). by.each j (omega arith) ∙ rw (le-leb (mod_sub (get_or list j 0) low) span (f.sofar j k));
    }

    pub near-ends : i ≡ length list → Fills (λ (i r v : ℕ). near low span r v) list i list
    near-ends is read first by = filled read (nears read first by (omega arith)) (omega arith)

    pub near_stops : {v : ℕ} → i < length list → v ≡ mod_sub (get_or list i 0) low → span < v → Fills (λ (i r v : ℕ). near low span r v) list i list
    near_stops {v} h e beyond read first by = bounded read (nears read first by (omega arith)) h (by.each i h ∙ rw (← e, lt-leb v span beyond))

-- ---- a list that was raised

-- what a height adds to a minimum is told from the sum
height_back : (minimum h : ℕ) → minimum < 2 ^ 64 → h < 2 ^ 64 → mod_sub (mod_add minimum h) minimum ≡ h
height_back minimum h f g = omega arith

module _ (height : ℕ → ℕ → ℕ) (minimum limit : ℕ) (before after : List ℕ) (fits : minimum < 2 ^ 64) (small : (i : ℕ) → i < length before → height i (get_or before i 0) < 2 ^ 64) (same : length after ≡ length before) (r : Raised height minimum before after) where
  -- the rows by their values
  by_values : (read : ℕ → Outcome ℕ) (first : ℕ) → ReadBy (λ (i q v : ℕ). reached minimum limit q (height i v)) read first before → ReadBy (λ (i q v : ℕ). near minimum limit q v) read first after
  by_values read first by = record {
    each = λ (i : ℕ) (h : i < length after).
        let k : i < length before = omega arith in
        by.each i k ∙ rw (r.raised i k, height_back minimum (height i (get_or before i 0)) fits (small i k));
  }

  pub raised_up_to : (n : ℕ) → Fills (λ (i q v : ℕ). near minimum limit q v) after n after → Fills (λ (i q v : ℕ). reached minimum limit q (height i v)) before n after
  raised_up_to n fills read first by = fills read first (by_values read first by) ∙ ap (read_run read first) same

  pub raised_all : (bound : ℕ) → bound ≤ limit → Within height bound before → Fills (λ (i q v : ℕ). reached minimum limit q (height i v)) before (length after) after
  raised_all bound less w =
      raised_up_to (length after)
      (near-ends minimum limit after
      (record {
        sofar = λ (j : ℕ) (k : j < length after).
            let h : j < length before = omega arith in
            rw (r.raised j h, height_back minimum (height j (get_or before j 0)) fits (small j h)) (le_trans (w.within j h) less);
      }) refl)

-- ---- a list that is scaled

-- the value of a multiple, by plain numbers
abbrev scaled_by : (minimum gcd count r multiple : ℕ) → Outcome ℕ
scaled_by minimum gcd count r multiple = demand (leb multiple count) 14 (r ∷ []) >> value (minimum + gcd * multiple)

module _ (minimum gcd count : ℕ) (before : List ℕ) where
  -- the entries before i are values of multiples up to the count, and those from i on are as they were
  pub record Scaling (list : List ℕ) (i : ℕ) : Type 0 where
    pub kept : length list ≡ length before
    pub ahead : (j : ℕ) → i ≤ j → get_or list j 0 ≡ get_or before j 0
    pub within : (j : ℕ) → j < i → get_or before j 0 ≤ count
    pub product : (j : ℕ) → j < i → get_or list j 0 ≡ minimum + gcd * get_or before j 0

  pub scaling_starts : Scaling before 0
  scaling_starts = record {
    kept = refl;
    ahead = λ j h. refl;
    within = λ j h. absurd (not-suc-le-zero h);
    product = λ j h. absurd (not-suc-le-zero h);
  }

  module _ {list : List ℕ} {i : ℕ} (s : Scaling list i) where
    pub scaling_more : i < length list → get_or list i 0 ≤ count → Scaling (set list i (minimum + gcd * get_or list i 0)) (i + 1)
    scaling_more h few =
        let was = s.ahead i (le_refl i) in
        let v = minimum + gcd * get_or list i 0 in
        record {
          kept = simp length-set s.kept;
          ahead = λ (j : ℕ) (k : i + 1 ≤ j). get_or-set_other list i j v 0 (λ (q : j ≡ i). omega arith) ∙ s.ahead j (omega arith);
          within = λ (j : ℕ) (k : j < i + 1).
              ⊎_elim
              (λ (q : j ≡ i). rw (q, ← was) few)
              (λ (less : j < i). s.within j less)
              (eq-or-lt_of_le (omega arith));
          product = λ (j : ℕ) (k : j < i + 1).
              ⊎_elim
              (λ (q : j ≡ i). rw (q, ← was) (get_or-set_same list i v 0 h))
              (λ (less : j < i). get_or-set_other list i j v 0 (λ (q : j ≡ i). omega arith) ∙ s.product j less)
              (eq-or-lt_of_le (omega arith));
        }

    -- the rows so far have values
    scales : (read : ℕ → Outcome ℕ) (first : ℕ) → ReadBy (λ (i r v : ℕ). scaled_by minimum gcd count r v) read first before → i ≤ length list → Decoding read first list i
    scales read first by inside = record {
      sofar = λ (j : ℕ) (k : j < i).
          by.each j (omega (arith, s.kept)) ∙ rw (le-leb (get_or before j 0) count (s.within j k)) (ap value (sym (s.product j k)));
    }

    pub scaling_ends : i ≡ length list → Fills (λ (i r v : ℕ). scaled_by minimum gcd count r v) before i list
    scaling_ends is read first by = filled read (scales read first by (omega arith)) (omega arith) ∙ ap (read_run read first) s.kept

    pub scaling_stops : i < length list → count < get_or list i 0 → Fills (λ (i r v : ℕ). scaled_by minimum gcd count r v) before i list
    scaling_stops h beyond read first by =
        bounded read (scales read first by (omega arith)) h
        (by.each i (omega (arith, s.kept)) ∙ rw (lt-leb (get_or before i 0) count (rw (s.ahead i (le_refl i)) at beyond)))
        ∙ ap (read_run read first) s.kept

-- ---- multiples that are sums of numbers and a line

bare : (a : ℕ) → a < 2 ^ 64 → mod_add 0 (mod_sub a 0) ≡ a
bare a h = omega arith

pub by_line : (rule : (r multiple : ℕ) → Outcome ℕ) (l : Line) (from : ℕ) (before after : List ℕ) → length after ≡ length before → Raised (above_line l from 0) 0 before after → {read : ℕ → Outcome ℕ} {first : ℕ}
    → ReadBy (λ (i r v : ℕ). rule r (mod_add (line_at l (from + i)) v)) read first before → ReadBy (λ (i r v : ℕ). rule r v) read first after
by_line rule l from before after same r {read} {first} by = record {
  each = λ (i : ℕ) (h : i < length after).
      let k : i < length before = omega arith in
      by.each i k ∙ ap (rule (first + i)) (sym (r.raised i k ∙ bare (mod_add (line_at l (from + i)) (get_or before i 0)) (add_below _ _)));
}

-- ---- a column whose gcd is 1

-- its values lie their multiples above the minimum
pub plain_row : (col : Column) (r m : ℕ) → col.gcd ≡ 1 → col.minimum + col.count * col.gcd < 2 ^ 64 → scaled col r m ≡ reached col.minimum col.count r m
plain_row col r m one bounds = by_test (leb m col.count) refl
  where
    by_test : (t : Bool) → leb m col.count ≡ t → (demand t 14 (r ∷ []) >> value (col.minimum + col.gcd * m)) ≡ (demand t 14 (r ∷ []) >> value (mod_add col.minimum m))
    by_test true e =
        let most : col.count * col.gcd ≡ col.count = ap (λ (g : ℕ). col.count * g) one ∙ mul-one col.count in
        let step : col.gcd * m ≡ m = ap (λ (g : ℕ). g * m) one ∙ one-mul m in
        ap value (omega (arith, leb-true m col.count e))
    by_test false e = refl
