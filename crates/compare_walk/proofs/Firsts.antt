-- What the first difference says, over any two readings.
--     none_differs                  there is none exactly if the answers at all rows from the given one on are equal
--     FirstIn, first_differs        else it is the first row whose answers differ, with both
--     no_line, first_line_lem           from row 0 on it stands for the comparison's text: `lines 0` exactly if there is none, else its first line
--     difference_injective          an answer is told by what it means
-- Assumes nothing.
use Rattle.std.specs.Prelude.{Option, Some, None, Result}
use Rattle.format.specs.declared.Refusal.{Refusal}
use Prim.Native.Nat.{ℕ, zero, suc, ◌+◌, ◌-◌, ◌/◌, ◌%◌, ◌≤◌, ◌<◌}
use mathlib.Core.Path.{◌≡◌, refl, sym, ap, ◌∙◌}
use mathlib.Core.Bool.{Bool, true, false}
use mathlib.Core.Logic.{◌↔◌, ⊎_elim}
use mathlib.Core.List.{List, [], ◌∷◌, ◌++◌, append_assoc}
use native.Mathlib.Nat.{eq-or-lt_of_le}
use native.Mathlib.Omega.{arith}
use borrow.Author.Tests.{ltb-true, ltb-false}
use lib.Dec.{ltb}
use lib.ListN.{length, get_or}
use Rattle.format.specs.Comparing.{equal_answers, differing, pair_line, pair_lines, compared}
use Rattle.format.specs.Listing.{ascii, decimal_in, decimal, named, named_line}
use Rattle.format.specs.Lookup.{rows_passing}
use Rattle.format.specs.Outcome.{Outcome, pick}
use Rattle.format.proofs.Answers.{answered_injective}
use Rattle.compare_walk.specs.declared.Difference.{Difference}
use Rattle.compare_walk.specs.Differences.{Pair, first_of, first_difference, difference_meaning}
use Rattle.compare_walk.proofs.Seeks.{one_equal, one_differs}

-- one pair of answers
some_same : {p q : Pair} → Some p ≡ Some q → p ≡ q
some_same e = cc

-- a number's digits begin with one
digits : (most n : ℕ) → n < most → (d : ℕ) × (rest : List ℕ) × (decimal_in most n ≡ (48 + d) ∷ rest) × (d < 10)
unfolding decimal_in
digits zero n h = absurd (omega arith)
digits (suc most) n h = go (ltb n 10) refl (digits most (n / 10))
  where
    go : (t : Bool) → ltb n 10 ≡ t → (n / 10 < most → (d : ℕ) × (rest : List ℕ) × (decimal_in most (n / 10) ≡ (48 + d) ∷ rest) × (d < 10))
        → (d : ℕ) × (rest : List ℕ) × (pick t ((48 + n) ∷ []) (decimal_in most (n / 10) ++ ((48 + n % 10) ∷ [])) ≡ (48 + d) ∷ rest) × (d < 10)
    go true e shorter = (n, [], refl, ltb-true n 10 e)
    go false e shorter =
        let f = shorter (omega (arith, ltb-false n 10 e)) in
        (f.0, f.1 ++ ((48 + n % 10) ∷ []), ap (λ (l : List ℕ). l ++ ((48 + n % 10) ∷ [])) f.2, f.3)

decimal_first : (n : ℕ) {l : List ℕ} → decimal_in (suc n) n ≡ l → decimal n ≡ l
unfolding decimal
decimal_first n e = e

module _ (left right : ℕ → Outcome ℕ) where
  abbrev equal_at : ℕ → Bool
  equal_at x = equal_answers (left x) (right x)

  -- a row from r on, before an end: the first whose answers differ, with both
  pub record FirstIn (r end : ℕ) (p : Pair) : Type 0 where
    pub low : r ≤ p.row
    pub high : p.row < end
    pub before : (x : ℕ) → r ≤ x → x < p.row → equal_at x ≡ true
    pub differs : equal_at p.row ≡ false
    pub lefts : p.left ≡ left p.row
    pub rights : p.right ≡ right p.row

  -- ---- of n rows from r on

  -- a row more in front, with equal answers
  equal_too : {r : ℕ} (x : ℕ) → equal_at r ≡ true → r ≤ x → (r < x → equal_at x ≡ true) → equal_at x ≡ true
  equal_too x e low later = ⊎_elim (λ same. ap equal_at (sym same) ∙ e) later (eq-or-lt_of_le low)

  none_in : (n r : ℕ) → first_of left right (differing left right r n) ≡ None → (x : ℕ) → r ≤ x → x < r + n → equal_at x ≡ true
  none_in zero r e x low high = absurd (omega arith)
  none_in (suc n) r e x low high = go (equal_at r) refl (none_in n (suc r))
    where
      go : (t : Bool) → equal_at r ≡ t → (first_of left right (differing left right (suc r) n) ≡ None → (y : ℕ) → suc r ≤ y → y < suc r + n → equal_at y ≡ true) → equal_at x ≡ true
      go true h rest = equal_too x h low (λ less. rest (sym (ap (first_of left right) (one_equal left right r n h)) ∙ e) x less (omega arith))
      go false h rest = absurd (let z = sym (ap (first_of left right) (one_differs left right r n h)) ∙ e in let o : ◌≡◌ {A = ℕ} 0 1 = cc in omega arith)

  in_none : (n r : ℕ) → ((x : ℕ) → r ≤ x → x < r + n → equal_at x ≡ true) → first_of left right (differing left right r n) ≡ None
  unfolding rows_passing
  in_none zero r h = refl
  in_none (suc n) r h = ap (first_of left right) (one_equal left right r n (h r (omega arith) (omega arith))) ∙ in_none n (suc r) (λ x low high. h x (omega arith) (omega arith))

  first_in : (n r : ℕ) (p : Pair) → first_of left right (differing left right r n) ≡ Some p → FirstIn r (r + n) p
  unfolding rows_passing
  first_in zero r p e = absurd (let o : ◌≡◌ {A = ℕ} 0 1 = cc in omega arith)
  first_in (suc n) r p e = go (equal_at r) refl (first_in n (suc r) p)
    where
      go : (t : Bool) → equal_at r ≡ t → (first_of left right (differing left right (suc r) n) ≡ Some p → FirstIn (suc r) (suc r + n) p) → FirstIn r (r + suc n) p
      go true h rest =
          let f = rest (sym (ap (first_of left right) (one_equal left right r n h)) ∙ e) in
          record {
            low = omega (arith, f.low);
            high = omega (arith, f.high);
            before = λ x low high. equal_too x h low (λ less. f.before x less high);
            differs = f.differs;
            lefts = f.lefts;
            rights = f.rights;
          }
      go false h rest =
          let is : p ≡ record { row = r; left = left r; right = right r } = some_same (sym e ∙ ap (first_of left right) (one_differs left right r n h)) in
          rw is (record { low = omega arith; high = omega arith; before = λ x low high. absurd (omega arith); differs = h; lefts = refl; rights = refl })

  -- ---- from a given row on

  module _ (rows from : ℕ) where
    pub none_differs : (first_difference left right rows from ≡ None) ↔ ((x : ℕ) → from ≤ x → x < rows → equal_at x ≡ true)
    unfolding first_difference
    none_differs = ((λ e x low high. none_in (rows - from) from e x low (omega arith)), (λ h. in_none (rows - from) from (λ x low high. h x low (omega arith))))

    pub first_differs : (p : Pair) → first_difference left right rows from ≡ Some p → FirstIn from rows p
    unfolding first_difference
    first_differs p e =
        let f = first_in (rows - from) from p e in
        record { low = f.low; high = omega (arith, f.low, f.high); before = f.before; differs = f.differs; lefts = f.lefts; rights = f.rights }

  -- ---- the comparison's text

  -- the rows of its lines
  text_rows : (rows : ℕ) → differing left right 0 (rows - 0) ≡ differing left right 0 rows
  text_rows rows = let all : rows - 0 ≡ rows = omega arith in ap (differing left right 0) all

  -- `lines 0` exactly if nothing differs
  pub no_line : (rows : ℕ) → (first_difference left right rows 0 ≡ None) ↔ (compared left right rows ≡ named_line (ascii "lines ") 0)
  unfolding first_difference compared pair_lines pair_line named_line named
  no_line rows = (there (differing left right 0 rows) (text_rows rows), back (differing left right 0 rows) (text_rows rows))
    where
      there : (l : List ℕ) → differing left right 0 (rows - 0) ≡ l → first_of left right (differing left right 0 (rows - 0)) ≡ None → pair_lines left right l ++ named_line (ascii "lines ") (length l) ≡ named_line (ascii "lines ") 0
      there [] is e = refl
      there (r ∷ rs) is e = absurd (let z = sym (ap (first_of left right) is) ∙ e in let o : ◌≡◌ {A = ℕ} 0 1 = cc in omega arith)

      back : (l : List ℕ) → differing left right 0 (rows - 0) ≡ l → pair_lines left right l ++ named_line (ascii "lines ") (length l) ≡ named_line (ascii "lines ") 0 → first_of left right (differing left right 0 (rows - 0)) ≡ None
      back [] is e = ap (first_of left right) is
      back (r ∷ rs) is e =
          let d = digits (suc r) r (omega arith) in
          let first : get_or (pair_lines left right (r ∷ rs) ++ named_line (ascii "lines ") (length (r ∷ rs))) 0 0 ≡ 48 + d.0 = rw (decimal_first r d.2) in
          let other : get_or (pair_lines left right (r ∷ rs) ++ named_line (ascii "lines ") (length (r ∷ rs))) 0 0 ≡ 108 = ap (λ (l : List ℕ). get_or l 0 0) e in
          absurd (omega (arith, first, other, d.3))

  pub first_line_lem : (rows : ℕ) (p : Pair) → first_difference left right rows 0 ≡ Some p → (rest : List ℕ) × (compared left right rows ≡ pair_line p.row p.left p.right ++ rest)
  unfolding first_difference compared pair_lines
  first_line_lem rows p e = go (differing left right 0 rows) (text_rows rows)
    where
      go : (l : List ℕ) → differing left right 0 (rows - 0) ≡ l → (rest : List ℕ) × (pair_lines left right l ++ named_line (ascii "lines ") (length l) ≡ pair_line p.row p.left p.right ++ rest)
      go [] is = absurd (let z = sym (ap (first_of left right) is) ∙ e in let o : ◌≡◌ {A = ℕ} 0 1 = cc in omega arith)
      go (r ∷ rs) is =
          let same : record { row = r; left = left r; right = right r } ≡ p = some_same (sym (ap (first_of left right) is) ∙ e) in
          (pair_lines left right rs ++ named_line (ascii "lines ") (length (r ∷ rs)), rw (← same) (append_assoc (pair_line r (left r) (right r)) (pair_lines left right rs) (named_line (ascii "lines ") (length (r ∷ rs)))))

-- ---- the answer

-- an answer is told by what it means
pub difference_injective : (a b : Option Difference) → difference_meaning a ≡ difference_meaning b → a ≡ b
difference_injective None None e = refl
difference_injective None (Some d) e = absurd (let o : ◌≡◌ {A = ℕ} 0 1 = cc in omega arith)
difference_injective (Some d) None e = absurd (let o : ◌≡◌ {A = ℕ} 0 1 = cc in omega arith)
difference_injective (Some d) (Some d') e =
    let z = some_same e in
    let left : d.left ≡ d'.left = answered_injective d.left d'.left (ap (λ (p : Pair). p.left) z) in
    let right : d.right ≡ d'.right = answered_injective d.right d'.right (ap (λ (p : Pair). p.right) z) in
    let row : d.row ≡ d'.row = ap (λ (p : Pair). p.row) z in
    let one : Some d ≡ Some (record { row = d'.row; left = d.left; right = d.right }) = ap (λ (n : ℕ). Some (record { row = n; left = d.left; right = d.right })) row in
    let two : Some (record { row = d'.row; left = d.left; right = d.right }) ≡ Some (record { row = d'.row; left = d'.left; right = d.right }) =
    ap (λ (l : Result ℕ Refusal). Some (record { row = d'.row; left = l; right = d.right })) left in
    let three : Some (record { row = d'.row; left = d'.left; right = d.right }) ≡ Some d' = ap (λ (r : Result ℕ Refusal). Some (record { row = d'.row; left = d'.left; right = r })) right in
    one ∙ two ∙ three
