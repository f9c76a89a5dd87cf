-- The search for the part of an offset: the parts that are left hold it, if any does.
--     Seeking, seeking_more, seeking_found, seeking_ends       the loop of `seek`
--     walked_part, walked_done, walked_is                      what a step of the walk says
-- Assumes nothing.
use Rattle.std.specs.Prelude.{Option, Some, None}
use Prim.Native.Nat.{ℕ, ◌+◌, ◌-◌, ◌≤◌, ◌<◌}
use mathlib.Core.Path.{◌≡◌, refl, sym, ap, ◌∙◌}
use mathlib.Core.List.{List, [], ◌∷◌}
use native.Mathlib.Omega.{arith}
use lib.ListN.{length, drop}
use borrow.Author.Tests.{lt-ltb, le-ltb}
use Rattle.format.specs.declared.Column.{Column}
use Rattle.format.specs.declared.Part.{Part}
use Rattle.format.specs.declared.PartName.{PartName}
use Rattle.format.specs.Parts.{names, part_here, part_end, parts_from, part_in, part_at}
use Rattle.byte_part.specs.declared.Cursor.{Cursor}
use Rattle.byte_part.specs.Walk.{nth, step_to, walked}
use Rattle.byte_part.proofs.Names.{nth_some, nth_none}

module _ (s : List ℕ) (col : Column) where
  -- all names of the column's parts
  abbrev pub all : List PartName
  all = names col.codec col.rows

  -- a part that was found at a place
  pub record Found (c : Cursor) (p : Part) (next : Cursor) : Type 0 where
    pub name : PartName
    pub there : nth all c.number ≡ Some name
    pub is : part_here s col name c.at ≡ p
    pub number : next.number ≡ c.number + 1
    pub at : next.at ≡ part_end p

  found_at : (c : Cursor) (o : Option PartName) → nth all c.number ≡ o → (p : Part) (next : Cursor) → step_to s col c o ≡ Some (p, next) → Found c p next
  found_at c None there p next e = absurd (let z : ◌≡◌ {A = ℕ} 0 1 = cc in omega arith)
  found_at c (Some n) there p next e =
      let one : ◌≡◌ {A = Part × Cursor} (part_here s col n c.at, record { number = c.number + 1; at = part_end (part_here s col n c.at) }) (p, next) = cc in
      let is = ap (λ (t : Part × Cursor). t.0) one in
      let then = ap (λ (t : Part × Cursor). t.1) one in
      record {
        name = n;
        there = there;
        is = is;
        number = sym (ap (λ (k : Cursor). k.number) then);
        at = sym (ap (λ (k : Cursor). k.at) then) ∙ ap part_end is;
      }

  pub walked_part : (c : Cursor) (p : Part) (next : Cursor) → walked s col c ≡ Some (p, next) → Found c p next
  walked_part c p next e = found_at c (nth all c.number) refl p next e

  none_at : (c : Cursor) (o : Option PartName) → nth all c.number ≡ o → step_to s col c o ≡ None → nth all c.number ≡ None
  none_at c None there e = there
  none_at c (Some n) there e = absurd (let z : ◌≡◌ {A = ℕ} 0 1 = cc in omega arith)

  pub walked_done : (c : Cursor) → walked s col c ≡ None → drop c.number all ≡ []
  walked_done c e = nth_none all c.number (none_at c (nth all c.number) refl e)

  -- the part of a name, and the place behind it, are a step
  pub walked_is : (c : Cursor) (n : PartName) (p : Part) → nth all c.number ≡ Some n → p ≡ part_here s col n c.at
      → Some (p, record { number = c.number + 1; at = c.at + p.bytes }) ≡ walked s col c
  walked_is c n p there is =
      ap (λ (q : Part). Some (q, record { number = c.number + 1; at = c.at + q.bytes })) is ∙ sym (ap (step_to s col c) there)

  -- ---- the loop

  -- the parts from a place on hold the offset, if any part does
  abbrev pub Seeking : (i : ℕ) → Cursor → Type 0
  Seeking i c = part_at s col i ≡ part_in (parts_from s col c.at (drop c.number all)) i

  -- the first of them
  step_in : (i : ℕ) (c : Cursor) (p : Part) (next : Cursor) → Found c p next → Seeking i c
      → part_at s col i ≡ part_in (p ∷ parts_from s col next.at (drop next.number all)) i
  unfolding parts_from
  step_in i c p next f seeking =
      seeking ∙ ap (λ (ns : List PartName). part_in (parts_from s col c.at ns) i) (nth_some all c.number f.name f.there).1
      ∙ ap (λ (q : Part). part_in (q ∷ parts_from s col (part_end q) (drop (c.number + 1) all)) i) f.is
      ∙ ap (λ (k : ℕ). part_in (p ∷ parts_from s col k (drop (c.number + 1) all)) i) (sym f.at)
      ∙ ap (λ (k : ℕ). part_in (p ∷ parts_from s col next.at (drop k all)) i) (sym f.number)

  pub seeking_found : (i : ℕ) (c : Cursor) (p : Part) (next : Cursor) → Found c p next → Seeking i c → i < next.at → part_at s col i ≡ Some p
  unfolding part_in
  seeking_found i c p next f seeking h = step_in i c p next f seeking ∙ rw (lt-ltb i (part_end p) (omega (arith, f.at)))

  pub seeking_more : (i : ℕ) (c : Cursor) (p : Part) (next : Cursor) → Found c p next → Seeking i c → next.at ≤ i → Seeking i next
  unfolding part_in
  seeking_more i c p next f seeking h = step_in i c p next f seeking ∙ rw (le-ltb i (part_end p) (omega (arith, f.at)))

  pub seeking_ends : (i : ℕ) (c : Cursor) → walked s col c ≡ None → Seeking i c → part_at s col i ≡ None
  unfolding parts_from part_in
  seeking_ends i c e seeking = seeking ∙ ap (λ (ns : List PartName). part_in (parts_from s col c.at ns) i) (walked_done c e)

  -- a step leaves one name less
  pub less_left : (c : Cursor) (p : Part) (next : Cursor) → Found c p next → length all - next.number < length all - c.number
  less_left c p next f = omega (arith, f.number, (nth_some all c.number f.name f.there).0)
