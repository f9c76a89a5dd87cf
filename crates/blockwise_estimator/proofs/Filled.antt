-- A lent list that is filled from the left, entry by entry, with the entries of another list of its length.
--     Filled, filled-starts, filled_next_is, filled_more, filled-ends     the filling
--     loaded_length, loaded_more                                          by a part of some values, each changed by a function
--     residual_stored                                                     by residuals, each in its value's place
-- Assumes nothing.
use Prim.Native.Nat.{ℕ, suc, ◌+◌, ◌≤◌, ◌<◌}
use mathlib.Core.Path.{◌≡◌, refl, sym, ap, ◌∙◌}
use mathlib.Core.List.{List, map}
use native.Mathlib.Nat.{add-zero}
use native.Mathlib.Numerals.{add-one}
use native.Mathlib.Omega.{arith}
use lib.ListN.{length, take, drop, get_or, set, length-set, length-map, length-drop, get_or-map}
use lib.Seq.{take-suc, take-suc-set, take_all, drop-set-lt, drop-cons, get_or-drop, get_or-take, length-take-le}
use Rattle.format.specs.declared.Line.{Line}
use Rattle.format.specs.Word.{mod_sub}
use Rattle.format.specs.Line.{line_at, residuals}
use Rattle.format.proofs.Lines.{residual_at}

-- the first i entries of l are those of `whole`, and the others are still as before
pub record Filled (whole before : List ℕ) (i : ℕ) (l : List ℕ) : Type 0 where
  pub size : length l ≡ length whole
  pub same : length l ≡ length before
  pub done : take i l ≡ take i whole
  pub rest : drop i l ≡ drop i before

pub filled-starts : (whole before : List ℕ) → length before ≡ length whole → Filled whole before 0 before
filled-starts whole before e = record { size = e; same = refl; done = refl; rest = refl }

module _ {whole before : List ℕ} {i : ℕ} {l : List ℕ} (f : Filled whole before i l) where
  -- the next entry is as it was
  pub filled_next_is : get_or l i 0 ≡ get_or before i 0
  filled_next_is =
      ap (λ (k : ℕ). get_or l k 0) (sym (add-zero i)) ∙ sym (get_or-drop i l 0 0) ∙ ap (λ (x : List ℕ). get_or x 0 0) f.rest ∙ get_or-drop i before 0 0 ∙ ap (λ (k : ℕ). get_or before k 0) (add-zero i)

  pub filled_more : (v d : ℕ) → i < length whole → v ≡ get_or whole i d → Filled whole before (i + 1) (set l i v)
  filled_more v d h e =
      let inside : i < length l = omega (arith, f.size) in
      record {
        size = length-set l i v ∙ f.size;
        same = length-set l i v ∙ f.same;
        done = rw (add-one i, take-suc-set l i v inside, f.done, take-suc whole i d h, e);
        rest = rw (add-one i, drop-set-lt (suc i) l i v (omega arith)) (next f.rest inside);
      }
    where
      next : drop i l ≡ drop i before → i < length l → drop (suc i) l ≡ drop (suc i) before
      next e h =
          let k : i < length before = omega (arith, f.same) in
          let a = drop-cons l i 0 h in
          let b = drop-cons before i 0 k in
          cc

  pub filled-ends : length l ≤ i → l ≡ whole
  filled-ends h = sym (take_all i l h) ∙ f.done ∙ take_all i whole (omega (arith, f.size))

-- ---- a part of some values, each changed by f

-- as many as there is room for
pub loaded_length : (f : ℕ → ℕ) (values : List ℕ) (at n : ℕ) → at + n ≤ length values → length (map f (take n (drop at values))) ≡ n
loaded_length f values at n h = length-map (take n (drop at values)) f ∙ length-take-le n (drop at values) (simp length-drop (omega arith))

-- one value more
pub loaded_more : (f : ℕ → ℕ) (values before : List ℕ) (at : ℕ) {block : List ℕ} {i v : ℕ} → at + length before ≤ length values → Filled (map f (take (length before) (drop at values))) before i block
    → i < length block → v ≡ f (get_or values (at + i) 0) → Filled (map f (take (length before) (drop at values))) before (i + 1) (set block i v)
loaded_more f values before at {block} {i} {v} room g h e =
    let part = take (length before) (drop at values) in
    let inside : i < length before = omega (arith, g.same) in
    filled_more g v (f 0) (omega (arith, loaded_length f values at (length before) room))
    (e ∙ ap f (sym (get_or-drop at values i 0) ∙ sym (get_or-take (length before) (drop at values) i 0 inside)) ∙ sym (get_or-map f part i 0))

-- ---- residuals in their values' place

pub residual_stored : (l : Line) {i v : ℕ} {before ys : List ℕ} → Filled (residuals l before) before i ys → i < length ys → v ≡ mod_sub (get_or ys i 0) (line_at l i)
    → Filled (residuals l before) before (i + 1) (set ys i v)
residual_stored l {i} {v} {before} {ys} f h e =
    let inside : i < length before = omega (arith, f.same) in
    filled_more f v 0 (omega (arith, f.size)) (e ∙ ap (λ (y : ℕ). mod_sub y (line_at l i)) (filled_next_is f) ∙ sym (residual_at l before i inside))
