-- The loop that fills a list with parts: what is put, joined with what comes from here on, is what is to be put.
--     place_next, parts_more, parts_none              what a step of the walk says of the parts from a place on
--     Filling, filling_more, -done, -ends             the loop of `fill`
-- Assumes nothing.
use Rattle.std.specs.Prelude.{Some, None}
use Prim.Native.Nat.{ℕ, zero, suc, ◌+◌, ◌-◌, ◌*◌, ◌/◌, ◌≤◌, ◌<◌}
use mathlib.Core.Path.{◌≡◌, refl, sym, ap, ◌∙◌}
use mathlib.Core.List.{List, [], ◌∷◌}
use native.Mathlib.Omega.{arith}
use lib.ListN.{length, take, drop}
use lib.Seq.{sets, length-sets}
use Rattle.format.specs.declared.Column.{Column}
use Rattle.format.specs.declared.Part.{Part}
use Rattle.format.specs.Parts.{part_end, parts_from}
use Rattle.format.proofs.Stores.{sets-append}
use Rattle.byte_part.specs.declared.Cursor.{Cursor}
use Rattle.byte_part.specs.Walk.{walked}
use Rattle.byte_part.proofs.Names.{nth_some}
use Rattle.byte_part.proofs.Seeking.{all, Found, walked_part, walked_done}
use Rattle.c_numbers.specs.Explaining.{part_numbers}
use Rattle.c_parts.specs.Listed.{parts_at, behind, parts_numbers, Fills}

-- no parts, however many are asked for
take_none : (k : ℕ) {ps : List Part} → ps ≡ [] → take k ps ≡ []
take_none zero e = refl
take_none (suc k) e = ap (take (suc k)) e

module _ (s : List ℕ) (col : Column) where
  -- a part that was found is the first of those from its place on
  found_first : (c : Cursor) (p : Part) (next : Cursor) → Found s col c p next → parts_at s col c ≡ p ∷ parts_at s col next
  unfolding parts_from
  found_first c p next f =
      ap (parts_from s col c.at) (nth_some (all s col) c.number f.name f.there).1
      ∙ ap (λ (q : Part). q ∷ parts_from s col (part_end q) (drop (c.number + 1) (all s col))) f.is
      ∙ ap (λ (k : ℕ). p ∷ parts_from s col k (drop (c.number + 1) (all s col))) (sym f.at)
      ∙ ap (λ (k : ℕ). p ∷ parts_from s col next.at (drop k (all s col))) (sym f.number)

  -- and its place is followed by the next one's
  pub place_next : (c : Cursor) (p : Part) (next : Cursor) → walked s col c ≡ Some (p, next) → record { number = c.number + 1; at = part_end p } ≡ next
  place_next c p next e =
      let f = walked_part s col c p next e in
      rw (f.number, f.at)

  pub parts_more : (c : Cursor) (p : Part) (next : Cursor) → walked s col c ≡ Some (p, next) → parts_at s col c ≡ p ∷ parts_at s col next
  parts_more c p next e = found_first c p next (walked_part s col c p next e)

  pub parts_none : (c : Cursor) → walked s col c ≡ None → parts_at s col c ≡ []
  unfolding parts_from
  parts_none c e = ap (parts_from s col c.at) (walked_done s col c e)

-- n parts are put into the list `old`, which is `new` now; those that are left to put begin at a place
pub record Filling (s : List ℕ) (col : Column) (from : Cursor) (old new : List ℕ) (place : Cursor) (n : ℕ) : Type 0 where
  pub few : n ≤ length old / 5
  pub kept : length new ≡ length old
  pub count : length (take (length old / 5) (parts_at s col from)) ≡ n + length (take (length old / 5 - n) (parts_at s col place))
  pub goes : behind from (take (length old / 5) (parts_at s col from)) ≡ behind place (take (length old / 5 - n) (parts_at s col place))
  pub list : sets old 0 (parts_numbers (take (length old / 5) (parts_at s col from))) ≡ sets new (5 * n) (parts_numbers (take (length old / 5 - n) (parts_at s col place)))

module _ {s : List ℕ} {col : Column} {from place : Cursor} {old new : List ℕ} {n : ℕ} (f : Filling s col from old new place n) where
  -- what is left to put
  abbrev left : List Part
  left = take (length old / 5 - n) (parts_at s col place)

  -- the next part was put
  pub filling_more : (p : Part) (next : Cursor) {later : List ℕ} → n < length old / 5 → walked s col place ≡ Some (p, next) → later ≡ sets new (5 * n) (part_numbers p)
      → Filling s col from old later next (n + 1)
  unfolding behind parts_numbers
  filling_more p next {later} more e put =
      let rest = take (length old / 5 - (n + 1)) (parts_at s col next) in
      let one : length old / 5 - n ≡ suc (length old / 5 - (n + 1)) = omega arith in
      let first : left ≡ p ∷ rest = ap (λ (k : ℕ). take k (parts_at s col place)) one ∙ ap (take (suc (length old / 5 - (n + 1)))) (parts_more s col place p next e) in
      record {
        few = omega arith;
        kept = ap length put ∙ length-sets new (5 * n) (part_numbers p) ∙ f.kept;
        count = omega (arith, f.count, ap length first);
        goes = f.goes ∙ ap (behind place) first ∙ ap (λ (c : Cursor). behind c rest) (place_next s col place p next e);
        list =
            f.list
            ∙ ap (λ (ps : List Part). sets new (5 * n) (parts_numbers ps)) first
            ∙ sym (sets-append (part_numbers p) new (5 * n) (parts_numbers rest))
            ∙ ap (λ (l : List ℕ). sets l (5 * n + 5) (parts_numbers rest)) (sym put)
            ∙ ap (λ (k : ℕ). sets later k (parts_numbers rest)) (omega arith);
      }

  -- nothing is left to put
  nothing : left ≡ [] → Fills s col from (record { parts = n; behind = place }) old new
  unfolding behind parts_numbers
  nothing none =
      record {
        count = omega (arith, f.count, ap length none);
        place = sym (f.goes ∙ ap (behind place) none);
        list = sym (f.list ∙ ap (λ (ps : List Part). sets new (5 * n) (parts_numbers ps)) none);
      }

  -- since there are no more parts,
  pub filling_done : walked s col place ≡ None → Fills s col from (record { parts = n; behind = place }) old new
  filling_done e = nothing (take_none (length old / 5 - n) (parts_none s col place e))

  -- or the list is full
  pub filling_ends : length old / 5 ≤ n → Fills s col from (record { parts = n; behind = place }) old new
  filling_ends full =
      let none : length old / 5 - n ≡ 0 = omega arith in
      nothing (ap (λ (k : ℕ). take k (parts_at s col place)) none)
