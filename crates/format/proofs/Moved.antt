-- Training on values all moved by the same amount, modulo 2^64 (`trains_alike`): differences stay, so the slope does; the numbers among which
-- the intercept is looked for move with the values, and so does where the search begins.
-- Assumes nothing.
use mathlib.Core.Path.{◌≡◌, refl, sym, ap, ◌∙◌}
use mathlib.Core.Bool.{Bool, true, false}
use mathlib.Core.List.{List, [], ◌∷◌}
use Prim.Native.Nat.{ℕ, suc, ◌+◌, ◌-◌, ◌/◌, ◌%◌, ◌^◌, ◌≤◌, ◌<◌}
use native.Mathlib.Nat.{mod-mod, not-suc-le-zero, le_of_suc-le-suc, zero-lt-suc}
use native.Mathlib.Omega.{arith}
use lib.Dec.{leb}
use lib.ListN.{length, get_or, length-map}
use Rattle.format.specs.declared.Line.{Line}
use Rattle.format.specs.Outcome.{pick}
use Rattle.format.specs.Word.{mod_add, mod_sub, mod_mul, signed32, AllBelow}
use Rattle.format.specs.Stats.{fold_from, reduce}
use Rattle.format.specs.Line.{line_at, residuals, residuals_from, rising, height, slope_of, nearer, slope_through, base_of, through, intercept_of, trained}
use Rattle.format.specs.Bodies.{block_residuals}
use Rattle.format.specs.Lengths.{moved, Moves}
use Rattle.format.proofs.Lists.{map_at}
use Rattle.format.proofs.Words.{sub_below, back, back_sum, sub_raised}
use Rattle.format.proofs.Lines.{line_below, residuals-length}

module _ (t : ℕ) where
  -- ---- numbers

  -- a difference stays
  sub_moved : (a b : ℕ) → b < 2 ^ 64 → mod_sub (mod_add a t) (mod_add b t) ≡ mod_sub a b
  sub_moved a b h =
      step (mod_sub a b) (mod_sub (mod_add a t) (mod_add b t)) (sub_below a b) (sub_below (mod_add a t) (mod_add b t)) (back a b h)
      (back_sum (mod_add a t) b t ∙ mod-mod (a + t) (2 ^ 64))
    where
      step : (x r : ℕ) → x < 2 ^ 64 → r < 2 ^ 64 → (x + b) % 2 ^ 64 ≡ a % 2 ^ 64 → (r + (b + t)) % 2 ^ 64 ≡ (a + t) % 2 ^ 64 → r ≡ x
      step x r hx hr p q = omega arith

  -- a line whose intercept moves
  abbrev raised : Line → Line
  raised l = record { slope = l.slope; intercept = mod_add l.intercept t }

  line_moved : (l : Line) (x : ℕ) → line_at (raised l) x ≡ mod_add (line_at l x) t
  unfolding line_at
  line_moved l x = swapped l.intercept (signed32 (mod_mul x l.slope / 2 ^ 32))
    where
      swapped : (i s : ℕ) → mod_add (mod_add i t) s ≡ mod_add (mod_add i s) t
      swapped i s = omega arith

  -- ---- what is left of each value

  -- over the same line it moves
  residuals-moved : (l : Line) (x : ℕ) (ys : List ℕ) → residuals_from l x (moved t ys) ≡ moved t (residuals_from l x ys)
  unfolding residuals_from
  residuals-moved l x [] = refl
  residuals-moved l x (y ∷ ys) = rw (residuals-moved l (suc x) ys, sub_raised y (line_at l x) t (line_below l x))

  -- over the moved line it stays
  residuals-kept : (l : Line) (x : ℕ) (ys : List ℕ) → residuals_from (raised l) x (moved t ys) ≡ residuals_from l x ys
  unfolding residuals_from
  residuals-kept l x [] = refl
  residuals-kept l x (y ∷ ys) = rw (residuals-kept l (suc x) ys, line_moved l x, sub_moved y (line_at l x) (line_below l x))

  -- ---- the slope

  slope_moved : (first last steps : ℕ) → first < 2 ^ 64 → last < 2 ^ 64 → slope_of (mod_add first t) (mod_add last t) steps ≡ slope_of first last steps
  unfolding slope_of height rising
  slope_moved first last steps f l = rw (sub_moved last first f, sub_moved first last l)

  through-moved : (ys : List ℕ) → AllBelow (2 ^ 64) ys → 0 < length ys → slope_through (moved t ys) ≡ slope_through ys
  through-moved ys each some =
      let last : length ys - 1 < length ys = omega arith in
      rw (length-map ys (λ (v : ℕ). mod_add v t), map_at (λ (v : ℕ). mod_add v t) ys 0 some, map_at (λ (v : ℕ). mod_add v t) ys (length ys - 1) last)
      (slope_moved (get_or ys 0 0) (get_or ys (length ys - 1) 0) (length ys - 1) (each 0 some) (each (length ys - 1) last))

  -- ---- the intercept

  pick-moved : (b : Bool) (x y : ℕ) → pick b (mod_add x t) (mod_add y t) ≡ mod_add (pick b x y) t
  pick-moved true x y = refl
  pick-moved false x y = refl

  nearer-moved : (base a b : ℕ) → base < 2 ^ 64 → nearer (mod_add base t) (mod_add a t) (mod_add b t) ≡ mod_add (nearer base a b) t
  unfolding nearer
  nearer-moved base a b h = rw (sub_moved a base h, sub_moved b base h) (pick-moved (leb (mod_sub a base) (mod_sub b base)) a b)

  fold-moved : (base acc : ℕ) (rs : List ℕ) → base < 2 ^ 64 → fold_from (nearer (mod_add base t)) (mod_add acc t) (moved t rs) ≡ mod_add (fold_from (nearer base) acc rs) t
  unfolding fold_from
  fold-moved base acc [] h = refl
  fold-moved base acc (r ∷ rs) h = ap (λ (a : ℕ). fold_from (nearer (mod_add base t)) a (moved t rs)) (nearer-moved base acc r h) ∙ fold-moved base (nearer base acc r) rs h

  reduce-moved : (base : ℕ) (rs : List ℕ) → base < 2 ^ 64 → 0 < length rs → reduce (nearer (mod_add base t)) (moved t rs) ≡ mod_add (reduce (nearer base) rs) t
  unfolding reduce
  reduce-moved base [] h some = absurd (not-suc-le-zero some)
  reduce-moved base (r ∷ rs) h some = fold-moved base r rs h

  intercept_moved : (slope : ℕ) (ys : List ℕ) → 0 < length ys → intercept_of slope (moved t ys) ≡ mod_add (intercept_of slope ys) t
  unfolding residuals
  intercept_moved slope ys some =
      let base : base_of (moved t ys) ≡ mod_add (base_of ys) t = ap (λ (y : ℕ). mod_sub y (2 ^ 32 - 1)) (map_at (λ (v : ℕ). mod_add v t) ys 0 some) ∙ sym (sub_raised (get_or ys 0 0) (2 ^ 32 - 1) t (omega arith)) in
      ap (λ (b : ℕ). reduce (nearer b) (residuals (through slope) (moved t ys))) base
      ∙ ap (reduce (nearer (mod_add (base_of ys) t))) (residuals-moved (through slope) 0 ys)
      ∙ reduce-moved (base_of ys) (residuals (through slope) ys) (sub_below (get_or ys 0 0) (2 ^ 32 - 1)) (rw residuals-length some)

  -- ---- the line

  line_same : (s i : ℕ) (l : Line) → s ≡ l.slope → i ≡ mod_add l.intercept t → record { slope = s; intercept = i } ≡ raised l
  line_same s i l p q = rw (p, q)

  trained-moved : (ys : List ℕ) → AllBelow (2 ^ 64) ys → 2 ≤ length ys → trained (moved t ys) ≡ raised (trained ys)
  unfolding trained
  trained-moved [] each h = absurd (not-suc-le-zero h)
  trained-moved (y ∷ []) each h = absurd (not-suc-le-zero (le_of_suc-le-suc h))
  trained-moved (y ∷ z ∷ ys) each h =
      let slope = through-moved (y ∷ z ∷ ys) each (zero-lt-suc _) in
      line_same _ _ (trained (y ∷ z ∷ ys)) slope
      (ap (λ (s : ℕ). intercept_of s (moved t (y ∷ z ∷ ys))) slope ∙ intercept_moved (slope_through (y ∷ z ∷ ys)) (y ∷ z ∷ ys) (zero-lt-suc _))

pub trains_alike : Moves
unfolding block_residuals residuals
trains_alike t ys each h =
    let line = trained-moved t ys each h in
    record {
      slope = ap (λ (l : Line). l.slope) line;
      intercept = ap (λ (l : Line). l.intercept) line;
      residuals = ap (λ (l : Line). residuals l (moved t ys)) line ∙ residuals-kept t (trained ys) 0 ys;
    }
