-- Where opening stops is where it is refused: by the same number, and at the offset that the refusal returns, if it returns one.
--     stops_there
-- Assumes nothing.
use Prim.Native.Nat.{ℕ, zero, suc, ◌+◌, ◌-◌, ◌*◌, ◌^◌, ◌≤◌, min}
use mathlib.Core.Path.{◌≡◌, refl, subst}
use mathlib.Core.Bool.{Bool, true, false}
use mathlib.Core.List.{List, [], ◌∷◌}
use native.Mathlib.Omega.{arith}
use lib.Dec.{ltb, leb}
use lib.ListN.{length, take, drop, get_or}
use borrow.Author.Tests.{le-leb}
use Rattle.format.specs.declared.Field.{Field}
use Rattle.format.specs.declared.Fields.{Fields}
use Rattle.format.specs.declared.Head.{Head}
use Rattle.format.specs.declared.PartName.{PartName}
use Rattle.format.specs.declared.PartName.TheVariants.{Code, Minimum, Gcd, Count, Rows, Slope, Intercept, Width, Area, BlockSlope, BlockIntercept, BlockWidth, FooterLength}
use Rattle.format.specs.Outcome.{Outcome, Outcome.value, Outcome.refusal, ◌>>=◌, ◌>>◌, demand}
use Rattle.format.specs.Word.{bytes_for}
use Rattle.format.specs.Varint.{Scan, Scan.none, Scan.found, scan, taken, read_varint}
use Rattle.format.specs.Packing.{width, legal, bytes_num}
use Rattle.format.specs.Stats.{read_head}
use Rattle.format.specs.Bodies.{block_count}
use Rattle.format.specs.Opening.{Loaded, Table, read_width, read_fields, block_before, read_blocks, open_bitpacked, open_linear, open_blockwise, open_body, opened}
use Rattle.format.specs.Stops.{Reach, Reach.reached, Reach.stops, during, reach_head, reach_fields, reach_area, reach_blocks, reach_body, reach, SameOffset, Alike, StopsThere}
use Rattle.format.proofs.Heads.{head_read}
use Rattle.format.specs.Stops.{◌>>=◌ as and_then, ◌>>◌ as behind_test}

-- a reading comes to what f makes of the rule's value, or both stop alike
unfoldable Along : {A B : Type 0} (f : A → B) → Reach B → Outcome A → Type 0
Along f (reached b) (value a) = f a ≡ b
Along f (reached b) (refusal n also) = ⊥
Along f (stops t) (value a) = ⊥
Along f (stops t) (refusal n also) = (t.number ≡ n) × SameOffset t.first also

-- what is read as it is
abbrev same : {A : Type 0} → A → A
same a = a

-- ---- steps

-- two steps go along if their firsts do, and what follows on the value does
then : {A B C D : Type 0} (f : A → B) (g : C → D) (r : Reach B) (o : Outcome A) (k : B → Reach D) (l : A → Outcome C)
    → Along f r o → ((a : A) → o ≡ value a → Along g (k (f a)) (l a)) → Along g (and_then r k) (o >>= l)
unfolding Along
then f g (reached b) (value a) k l e next = subst (λ x. Along g (k x) (l a)) e (next a refl)
then f g (reached b) (refusal n also) k l e next = absurd e
then f g (stops t) (value a) k l e next = absurd e
then f g (stops t) (refusal n also) k l e next = e

-- a test
tested : {C D : Type 0} (g : C → D) (name : PartName) (first : ℕ) (t : Bool) (n : ℕ) (r : Reach D) (o : Outcome C)
    → Along g r o → Along g (behind_test (during name first (demand t n [])) r) (demand t n [] >> o)
unfolding Along
tested g name first true n r o e = e
tested g name first false n r o e = (refl, tt)

-- a rule whose refusals return no other offset
abbrev At : {A : Type 0} (first : ℕ) → Outcome A → Type 0
At first (value a) = Unit {0}
At first (refusal n also) = SameOffset first also

-- a step that reads a part
reads : {A C D : Type 0} (g : C → D) (name : PartName) (first : ℕ) (o : Outcome A) (k : A → Reach D) (l : A → Outcome C)
    → At first o → ((a : A) → Along g (k a) (l a)) → Along g (and_then (during name first o) k) (o >>= l)
unfolding Along
reads g name first (value a) k l e next = next a
reads g name first (refusal n also) k l e next = (refl, e)

-- a value as it is
as_found : {A : Type 0} (a : A) → Along same (reached a) (value a)
unfolding Along
as_found a = refl

-- ---- fields

varint_at : (s : List ℕ) (at : ℕ) → At at (read_varint s at)
unfolding read_varint
varint_at s at = go (scan 10 (drop at s))
  where
    small : (t : Bool) (f : Field) → At at (demand t 6 (at ∷ []) >> value f)
    small true f = tt
    small false f = refl

    go : (x : Scan) → At at (taken at x)
    go none = refl
    go (found v n) = small (ltb v (2 ^ 64)) _

width_at : (s : List ℕ) (at : ℕ) → At at (read_width s at)
unfolding read_width
width_at s at = go (ltb at (length s)) (legal (get_or s at 0))
  where
    go : (t u : Bool) → At at (demand t 6 (at ∷ []) >> (demand u 9 (at ∷ []) >> value (get_or s at 0)))
    go true true = tt
    go true false = refl
    go false u = refl

head_along : (s : List ℕ) → Along same (reach_head s) (read_head s)
unfolding reach_head read_head
head_along s =
    reads same Minimum 1 (read_varint s 1) _ _ (varint_at s 1) λ m.
    reads same Gcd m.next (read_varint s m.next) _ _ (varint_at s m.next) λ g.
    tested same Gcd m.next (ltb 0 g.value) 7 _ _
    (reads same Count g.next (read_varint s g.next) _ _ (varint_at s g.next) λ c.
    tested same Count g.next (ltb (m.value + c.value * g.value) (2 ^ 64)) 8 _ _
    (reads same Rows c.next (read_varint s c.next) _ _ (varint_at s c.next) λ r.
    tested same Rows c.next (ltb r.value (2 ^ 32)) 8 _ _ (as_found _)))

fields_along : (a b w : PartName) (s : List ℕ) (at : ℕ) → Along same (reach_fields a b w s at) (read_fields s at)
unfolding reach_fields read_fields
fields_along a b w s at =
    reads same a at (read_varint s at) _ _ (varint_at s at) λ m.
    reads same b m.next (read_varint s m.next) _ _ (varint_at s m.next) λ i.
    reads same w i.next (read_width s i.next) _ _ (width_at s i.next) λ x.
    as_found _

-- ---- blocks

-- the bytes of a table's area
abbrev area_of : Table → ℕ
area_of t = t.area

-- a block before the others leaves the area's end
block_before_lem : (f : Fields) (start : ℕ) (r : Reach ℕ) (o : Outcome Table) → Along area_of r o → Along area_of r (o >>= (λ (t : Table). value (block_before f start t)))
unfolding Along
block_before_lem f start (reached b) (value t) e = e
block_before_lem f start (reached b) (refusal n also) e = e
block_before_lem f start (stops t) (value u) e = e
block_before_lem f start (stops t) (refusal n also) e = e

blocks_along : (k n : ℕ) (s : List ℕ) (at start rows : ℕ) → Along area_of (reach_blocks k n s at start rows) (read_blocks n s at start rows)
unfolding Along reach_blocks read_blocks
blocks_along k zero s at start rows = refl
blocks_along k (suc n) s at start rows =
    then same area_of (reach_fields (BlockSlope k) (BlockIntercept k) (BlockWidth k) s at) (read_fields s at) _ _ (fields_along (BlockSlope k) (BlockIntercept k) (BlockWidth k) s at) λ f _.
    block_before_lem f start (reach_blocks (suc k) n s f.next (start + bytes_for (f.bits * min rows 512)) (rows - 512)) (read_blocks n s f.next (start + bytes_for (f.bits * min rows 512)) (rows - 512))
    (blocks_along (suc k) n s f.next (start + bytes_for (f.bits * min rows 512)) (rows - 512))

-- ---- a column

-- whatever was opened
abbrev done : Loaded → Unit {0}
done l = tt

area_along : (at size end : ℕ) (l : Loaded) → Along done (reach_area at size end) (demand (leb (at + size) end) 10 [] >> value l)
unfolding Along
area_along at size end l = go (leb (at + size) end)
  where
    go : (t : Bool) → Along done (during Area at (demand t 10 [])) (demand t 10 [] >> value l)
    go true = refl
    go false = (refl, tt)

body_along : (codec : ℕ) (s : List ℕ) (h : Head) (room : ℕ) → block_count h.rows ≤ room → Along done (reach_body codec s h) (open_body codec s h room)
unfolding reach_body open_body open_bitpacked open_linear open_blockwise
body_along zero s h room few = area_along h.next (bytes_for (width h.count * h.rows)) (length s) _
body_along (suc zero) s h room few =
    then same done (reach_fields Slope Intercept Width s h.next) (read_fields s h.next) _ _ (fields_along Slope Intercept Width s h.next) λ f _.
    area_along f.next (bytes_for (f.bits * h.rows)) (length s) _
body_along (suc (suc c)) s h room few =
    let end = length s - 4 in
    let long = bytes_num (drop end s) in
    let at = end - long in
    rw (le-leb (block_count h.rows) room few)
    (tested done FooterLength h.next (leb (h.next + 4) (length s)) 10 _ _
    (tested done FooterLength end (leb (h.next + long) end) 10 _ _
    (then area_of done (reach_blocks 0 (block_count h.rows) (take end s) at 0 h.rows) (read_blocks (block_count h.rows) (take end s) at 0 h.rows) _ _
    (blocks_along 0 (block_count h.rows) (take end s) at 0 h.rows) λ t _.
    area_along h.next t.area at _)))

-- a reading and a rule that go along come to one end
along_alike : (r : Reach (Unit {0})) (o : Outcome Loaded) → Along done r o → Alike r o
unfolding Along
along_alike (reached b) (value a) e = tt
along_alike (reached b) (refusal n also) e = e
along_alike (stops t) (value a) e = e
along_alike (stops t) (refusal n also) e = e

pub stops_there : StopsThere
unfolding reach opened
stops_there [] room many = (refl, tt)
stops_there (c ∷ s) room many =
    along_alike _ _
    (tested done Code 0 (leb c 2) 5 _ _
    (then same done (reach_head (c ∷ s)) (read_head (c ∷ s)) _ _ (head_along (c ∷ s)) λ h is.
    body_along c (c ∷ s) h room (omega (arith, (head_read (c ∷ s) h is).few))))
