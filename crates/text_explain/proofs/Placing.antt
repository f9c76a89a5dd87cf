-- A place before a part by its number, over the walk of `byte_part`.
--     placed-starts, placed_more, placed_done       at the first part; a part further; behind the last
--     placed_past                                   behind the last part a place stays what it is
--     parts_few                                     there are few enough parts to count
-- Assumes nothing.
use Rattle.std.specs.Prelude.{Some, None}
use Prim.Native.Nat.{ℕ, zero, suc, ◌+◌, ◌^◌, ◌≤◌, ◌<◌}
use mathlib.Core.Path.{◌≡◌, refl, sym, ap, ◌∙◌}
use mathlib.Core.List.{List, [], ◌∷◌}
use native.Mathlib.Omega.{arith}
use lib.ListN.{length, drop}
use Rattle.format.specs.declared.Column.{Column}
use Rattle.format.specs.declared.Part.{Part}
use Rattle.format.specs.declared.PartName.{PartName}
use Rattle.format.specs.Parts.{names, part_here, part_end, parts_from, parts_of}
use Rattle.byte_part.specs.declared.Cursor.{Cursor}
use Rattle.byte_part.specs.Walk.{walked}
use Rattle.byte_part.proofs.Names.{nth_some, names_few}
use Rattle.byte_part.proofs.Seeking.{Found, walked_part, walked_done}
use Rattle.text_explain.specs.Chunk.{Placed}

-- the rest of a list behind its first entries: one entry further
drop_next : (n : ℕ) (ps : List Part) (p : Part) (qs : List Part) → p ∷ qs ≡ drop n ps → (qs ≡ drop (n + 1) ps) × (n < length ps)
drop_next zero ps p qs e =
    let one : 0 + 1 ≡ 1 = omega arith in
    (ap (drop 1) e ∙ ap (λ (k : ℕ). drop k ps) (sym one), omega (arith, ap length e))
drop_next (suc n) [] p qs e = absurd (let z : ◌≡◌ {A = ℕ} 0 1 = cc in omega arith)
drop_next (suc n) (q ∷ ps) p qs e =
    let later = drop_next n ps p qs e in
    let one : suc n + 1 ≡ suc (n + 1) = omega arith in
    (later.0 ∙ ap (λ (k : ℕ). drop k (q ∷ ps)) (sym one), omega (arith, later.1))

-- nothing is left: there are no more than so many
drop_none : (n : ℕ) (ps : List Part) → [] ≡ drop n ps → length ps ≤ n
drop_none n [] e = omega arith
drop_none zero (p ∷ ps) e = absurd (let z : ◌≡◌ {A = ℕ} 0 1 = cc in omega arith)
drop_none (suc n) (p ∷ ps) e = omega (arith, drop_none n ps e)

-- and none behind them
drop_later : (n m : ℕ) (ps : List Part) → [] ≡ drop n ps → n ≤ m → [] ≡ drop m ps
drop_later n m [] e h = sym (go m)
  where
    go : (m : ℕ) → drop {A = Part} m [] ≡ []
    go zero = refl
    go (suc m) = refl
drop_later zero m (p ∷ ps) e h = absurd (let z : ◌≡◌ {A = ℕ} 0 1 = cc in omega arith)
drop_later (suc n) zero (p ∷ ps) e h = absurd (omega arith)
drop_later (suc n) (suc m) (p ∷ ps) e h = drop_later n m ps e (omega arith)

module _ (s : List ℕ) (col : Column) where
  pub placed-starts : Placed s col 0 (record { number = 0; at = 0 })
  placed-starts = refl

  -- the part at a place, and what is left behind it
  rest : (c : Cursor) (p : Part) (next : Cursor) → Found s col c p next
      → parts_from s col c.at (drop c.number (names col.codec col.rows)) ≡ p ∷ parts_from s col next.at (drop next.number (names col.codec col.rows))
  unfolding parts_from
  rest c p next f =
      ap (parts_from s col c.at) (nth_some (names col.codec col.rows) c.number f.name f.there).1
      ∙ ap (λ (q : Part). q ∷ parts_from s col (part_end q) (drop (c.number + 1) (names col.codec col.rows))) f.is
      ∙ ap (λ (k : ℕ). p ∷ parts_from s col k (drop (c.number + 1) (names col.codec col.rows))) (sym f.at)
      ∙ ap (λ (k : ℕ). p ∷ parts_from s col next.at (drop k (names col.codec col.rows))) (sym f.number)

  -- part n is there, and the place behind it is before part n + 1
  pub record Further (n : ℕ) (p : Part) (next : Cursor) : Type 0 where
    pub here : drop n (parts_of s col) ≡ p ∷ drop (n + 1) (parts_of s col)
    pub placed : Placed s col (n + 1) next
    pub inside : n < length (parts_of s col)

  pub placed_more : (n : ℕ) (c : Cursor) (p : Part) (next : Cursor) → walked s col c ≡ Some (p, next) → Placed s col n c → Further n p next
  placed_more n c p next e placed =
      let first = sym (rest c p next (walked_part s col c p next e)) ∙ placed in
      let later = drop_next n (parts_of s col) p (parts_from s col next.at (drop next.number (names col.codec col.rows))) first in
      record { here = sym first ∙ ap (λ (qs : List Part). p ∷ qs) later.0; placed = later.0; inside = later.1 }

  -- nothing is left from a place on
  nothing_left : (n : ℕ) (c : Cursor) → walked s col c ≡ None → Placed s col n c → [] ≡ drop n (parts_of s col)
  unfolding parts_from
  nothing_left n c e placed = sym (ap (parts_from s col c.at) (walked_done s col c e)) ∙ placed

  pub placed_done : (n : ℕ) (c : Cursor) → walked s col c ≡ None → Placed s col n c → length (parts_of s col) ≤ n
  placed_done n c e placed = drop_none n (parts_of s col) (nothing_left n c e placed)

  pub placed_past : (n m : ℕ) (c : Cursor) → walked s col c ≡ None → Placed s col n c → n ≤ m → Placed s col m c
  placed_past n m c e placed h = placed ∙ sym (nothing_left n c e placed) ∙ drop_later n m (parts_of s col) (nothing_left n c e placed) h

  as_many : (at : ℕ) (ns : List PartName) → length (parts_from s col at ns) ≡ length ns
  unfolding parts_from
  as_many at [] = refl
  as_many at (n ∷ ns) = omega (arith, as_many (part_end (part_here s col n at)) ns)

  pub parts_few : col.rows < 2 ^ 32 → length (parts_of s col) < 2 ^ 40
  parts_few few = omega (arith, as_many 0 (names col.codec col.rows), names_few col.codec col.rows few)
