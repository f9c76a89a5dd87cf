-- Where opening stops: the order of reading once more, with the part that is being read at each step and the offset where it begins.
-- Assumes nothing.
use Rattle.std.specs.Option.{option_or}
use Rattle.std.specs.Prelude.{ℕ, zero, suc, ◌+◌, ◌-◌, ◌*◌, ◌^◌, ◌≤◌, min, ◌≡◌, List, [], ◌∷◌, ltb, leb, length, take, drop, Option, Some, None}
use Rattle.format.specs.declared.Head.{Head}
use Rattle.format.specs.declared.Fields.{Fields}
use Rattle.format.specs.declared.PartName.{PartName}
use Rattle.format.specs.declared.PartName.TheVariants.{Code, Minimum, Gcd, Count, Rows, Slope, Intercept, Width, Area, BlockSlope, BlockIntercept, BlockWidth, FooterLength}
use Rattle.format.specs.declared.Stop.{Stop}
use Rattle.format.specs.Outcome.{Outcome, Outcome.value, Outcome.refusal, demand}
use Rattle.format.specs.Word.{bytes_for}
use Rattle.format.specs.Varint.{read_varint}
use Rattle.format.specs.Packing.{width, bytes_num}
use Rattle.format.specs.Bodies.{block_count}
use Rattle.format.specs.Opening.{read_width, opened}

infixl 20 ◌>>=◌
infixl 20 ◌>>◌
-- a reading comes to something, or it stops
pub data Reach (A : Type 0) : Type 0 where
  reached : A → Reach A
  stops : Stop → Reach A

-- the next step of a reading
abbrev pub ◌>>=◌ : {A B : Type 0} → Reach A → (A → Reach B) → Reach B
◌>>=◌ (reached a) k = k a
◌>>=◌ (stops t) k = stops t

-- the next step behind a test
abbrev pub ◌>>◌ : {B : Type 0} → Reach (Unit {0}) → Reach B → Reach B
◌>>◌ (reached u) next = next
◌>>◌ (stops t) next = stops t

-- a step of reading the part that begins at an offset: its refusal is where opening stops
abbrev pub during : {A : Type 0} (name : PartName) (first : ℕ) → Outcome A → Reach A
during name first (value a) = reached a
during name first (refusal number also) = stops (record { number = number; name = name; first = first })

-- the head: the gcd, the count and the rows are tested as soon as they are read
unfoldable pub reach_head : (s : List ℕ) → Reach Head
reach_head s = do
  minimum ← during Minimum 1 (read_varint s 1)
  gcd ← during Gcd minimum.next (read_varint s minimum.next)
  during Gcd minimum.next (demand (ltb 0 gcd.value) 7 [])
  count ← during Count gcd.next (read_varint s gcd.next)
  during Count gcd.next (demand (ltb (minimum.value + count.value * gcd.value) (2 ^ 64)) 8 [])
  rows ← during Rows count.next (read_varint s count.next)
  during Rows count.next (demand (ltb rows.value (2 ^ 32)) 8 [])
  reached (record {
    minimum = minimum.value;
    gcd = gcd.value;
    count = count.value;
    rows = rows.value;
    next = rows.next;
    longer = option_or minimum.longer (option_or gcd.longer (option_or count.longer rows.longer));
  })

-- a line and its width, by the names of their parts
unfoldable pub reach_fields : (slope intercept bits : PartName) (s : List ℕ) (at : ℕ) → Reach Fields
reach_fields a b w s at = do
  slope ← during a at (read_varint s at)
  intercept ← during b slope.next (read_varint s slope.next)
  bits ← during w intercept.next (read_width s intercept.next)
  reached (record {
    line = record { slope = slope.value; intercept = intercept.value };
    bits = bits;
    next = intercept.next + 1;
    longer = option_or slope.longer intercept.longer;
  })

-- an area that begins at an offset and has to end before another
abbrev pub reach_area : (at size end : ℕ) → Reach (Unit {0})
reach_area at size end = during Area at (demand (leb (at + size) end) 10 [])

-- the fields of n blocks from block k on: the bytes of all blocks' area
unfoldable pub reach_blocks : (k n : ℕ) (s : List ℕ) (at start rows : ℕ) → Reach ℕ
reach_blocks k zero s at start rows = reached start
reach_blocks k (suc n) s at start rows =
    reach_fields (BlockSlope k) (BlockIntercept k) (BlockWidth k) s at
    >>= (λ (f : Fields). reach_blocks (suc k) n s f.next (start + bytes_for (f.bits * min rows 512)) (rows - 512))

-- the body of a codec by its number; a footer's length that is missing would begin behind the head
unfoldable pub reach_body : (codec : ℕ) (s : List ℕ) → Head → Reach (Unit {0})
reach_body zero s h = reach_area h.next (bytes_for (width h.count * h.rows)) (length s)
reach_body (suc zero) s h = do
  f ← reach_fields Slope Intercept Width s h.next
  reach_area f.next (bytes_for (f.bits * h.rows)) (length s)
reach_body (suc (suc c)) s h = do
  during FooterLength h.next (demand (leb (h.next + 4) (length s)) 10 [])
  let end = length s - 4
  let long = bytes_num (drop end s)
  during FooterLength end (demand (leb (h.next + long) end) 10 [])
  area ← reach_blocks 0 (block_count h.rows) (take end s) (end - long) 0 h.rows
  reach_area h.next area (end - long)

-- all of opening but the room for blocks
unfoldable pub reach : (s : List ℕ) → Reach (Unit {0})
reach [] = during Code 0 (refusal 5 [])
reach (c ∷ s) = do
  during Code 0 (demand (leb c 2) 5 [])
  h ← reach_head (c ∷ s)
  reach_body c (c ∷ s) h

-- where it stops, if it does
abbrev pub stop_in : {A : Type 0} → Reach A → Option Stop
stop_in (reached a) = None
stop_in (stops t) = Some t

-- where opening some bytes stops
abbrev pub stop_of : (s : List ℕ) → Option Stop
stop_of s = stop_in (reach s)

-- ---- what is asked of it

-- what a refusal returns besides is no other offset
abbrev pub SameOffset : (first : ℕ) (also : List ℕ) → Type 0
SameOffset first [] = Unit {0}
SameOffset first (offset ∷ others) = offset ≡ first

-- a reading and a rule have one end: neither stops; or both do, by one number, and where the rule returns an offset it is the part's
abbrev pub Alike : {A B : Type 0} → Reach A → Outcome B → Type 0
Alike (reached a) (value b) = Unit {0}
Alike (reached a) (refusal number also) = ⊥
Alike (stops t) (value b) = ⊥
Alike (stops t) (refusal number also) = (t.number ≡ number) × SameOffset t.first also

-- opening is refused just where it stops, given a table for the blocks of any column
abbrev pub StopsThere : Type 0
StopsThere = (s : List ℕ) (room : ℕ) → 2 ^ 23 ≤ room → Alike (reach s) (opened s room)
