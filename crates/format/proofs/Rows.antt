-- Reading a row of a window of an opened column: never 12 nor 13; what the answer depends on; that another packed number answers otherwise.
--     filled_block, filled_row                     a block of a lent table that was filled; reading through a lent table that was filled is reading through the opening's own blocks
--     row_there, row_fits_lem, row_answers, answer_is  column, table and bytes fit; the answer is the value of the packed number, or 14
--     packed_same, bits_same, packed_small         a row's packed number and its bits
--     value_tells                                  another packed number answers otherwise, unless both answers are 14
--     ValueOr14, value_or_14, own_row                           a row of any window in an opened column, read with the table that its opening filled, has a value or is refused 14
-- Assumes nothing.
use Prim.Native.Nat.{ℕ, ◌+◌, ◌-◌, ◌*◌, ◌/◌, ◌%◌, ◌^◌, ◌≤◌, ◌<◌}
use mathlib.Core.Path.{◌≡◌, refl, sym, ap, ◌∙◌, subst}
use mathlib.Core.Bool.{Bool, true, false, ◌&&◌}
use mathlib.Core.Logic.{◌⊎◌, inl, inr}
use mathlib.Core.List.{List, [], ◌∷◌}
use native.Mathlib.Nat.{eq_of_mul-eq-mul_left, pow-le-pow_right}
use native.Mathlib.Omega.{arith}
use lib.Dec.{ltb, leb, eqb, lit<}
use lib.ListN.{length, drop, get_or, length-drop, get_or-append}
use lib.Seq.{sets, length-sets, sets-eq}
use borrow.Author.Tests.{ltb-true, lt-ltb, le-leb}
use Rattle.format.specs.declared.Codec.{Codec}
use Rattle.format.specs.declared.Codec.TheVariants.{Bitpacked, Linear, Blockwise}
use Rattle.format.specs.declared.Column.{Column}
use Rattle.format.specs.declared.Window.{Window}
use Rattle.format.specs.declared.Place.{Place}
use Rattle.format.specs.declared.Block.{Block}
use Rattle.format.specs.Outcome.{Outcome, Outcome.value, Outcome.refusal, ◌>>◌, demand}
use Rattle.format.specs.Word.{mod_add}
use Rattle.format.specs.Packing.{legal, bit_at}
use Rattle.format.specs.Line.{line_at}
use Rattle.format.specs.Opening.{Loaded, opened}
use Rattle.format.specs.Reading.{column_row, place_in, place_of, no_block, block_at, has_block, column_fits, row_fits, fits, packed_of, value_in, value_at, asked_as, row_in, row_at}
use Rattle.format.specs.Windows.{windowed, in_window}
use Rattle.format.specs.Demands.{filled_by, answered, LiesIn, Owns, SameBits, Differ}
use Rattle.format.proofs.Tests.{or_true}
use Rattle.format.proofs.Outcomes.{told-apart}
use Rattle.format.proofs.Packing.{unpack_below, locality, row_bits, bit_at-drop}
use Rattle.format.proofs.Widths.{legal_most}
use Rattle.format.proofs.Laid.{Laid, opened_laid, laid_in}

-- ---- a table in a lent list

-- the first blocks of a lent table are what was stored
pub filled_block : (table xs : List Block) (b : ℕ) → length xs ≤ length table → b < length xs → block_at (sets table 0 xs) b ≡ block_at xs b
filled_block table xs b fit h =
    ap (λ (l : List Block). get_or l b no_block) (sets-eq xs table 0 (omega arith)) ∙ get_or-append xs (drop (0 + length xs) table) no_block b h

-- tables of however many blocks that have a row's block read it alike
counted_alike : (col : Column) (b : Block) (s : List ℕ) (r blocks more : ℕ) → has_block col.codec blocks (column_row col r) ≡ true → has_block col.codec more (column_row col r) ≡ true
    → row_in col blocks b s r ≡ row_in col more b s r
unfolding row_in fits row_fits
counted_alike col b s r blocks more here there = rw (here, there)

-- one codec's reading through a lent table that was filled
filled_reading : (col : Column) (codec : Codec) → col.codec ≡ codec → (table xs : List Block) (s : List ℕ) (r : ℕ) → length xs ≤ length table → has_block codec (length xs) (column_row col r) ≡ true
    → row_at col (sets table 0 xs) s r ≡ row_at col xs s r
unfolding row_in fits row_fits packed_of place_in value_in
filled_reading col Bitpacked e table xs s r fit there = rw e
filled_reading col (Linear l w) e table xs s r fit there = rw e
filled_reading col Blockwise e table xs s r fit there =
    let k = column_row col r / 512 in
    let inside : k < length xs = ltb-true k (length xs) there in
    let after : ltb k (length (sets table 0 xs)) ≡ true = lt-ltb k (length (sets table 0 xs)) (omega (arith, length-sets table 0 xs)) in
    ap (λ (b : Block). row_in col (length (sets table 0 xs)) b s r) (filled_block table xs k fit inside)
    ∙ counted_alike col (block_at xs k) s r (length (sets table 0 xs)) (length xs) (rw e after) (rw e there)

-- reading through a lent table that was filled is reading through the opening's own blocks: entries past them do not matter
pub filled_row : (o : Loaded) (table : List Block) (s : List ℕ) (r : ℕ) → length o.table ≤ length table → has_block o.column.codec (length o.table) (column_row o.column r) ≡ true
    → row_at o.column (filled_by o table) s r ≡ row_at o.column o.table s r
filled_row o table s r fit there = filled_reading o.column o.column.codec refl table o.table s r fit there

-- ---- a row of an opened column

-- the value of a row of the column, by its packed number
abbrev pub value_of : Loaded → (s : List ℕ) (q : ℕ) → Outcome ℕ
value_of o s q = value_at o.column (block_at o.table (q / 512)) s q

module _ {long room : ℕ} {o : Loaded} (laid : Laid long room o) (s : List ℕ) (fit : long ≤ length s) (r : ℕ) (h : r < o.column.window.rows) where
  -- the column's row
  abbrev at : ℕ
  at = column_row o.column r

  -- it is one of the column's
  pub row_there : at < o.column.rows
  row_there = omega (arith, laid.window)

  -- column, table and bytes fit together
  pub row_fits_lem : fits o.column (length o.table) (block_at o.table (at / 512)) s at ≡ true
  unfolding fits column_fits row_fits
  row_fits_lem =
      let p = place_of o.column (block_at o.table (at / 512)) at in
      rw (
        le-leb (o.column.window.first + o.column.window.rows) o.column.rows laid.window,
        lt-ltb 0 o.column.gcd laid.head.step,
        lt-ltb (o.column.minimum + o.column.count * o.column.gcd) (2 ^ 64) laid.head.bounds,
        laid.rows.present at row_there,
        laid.rows.lawful at row_there,
        le-leb (o.column.start + o.column.size) (length s) (omega (arith, laid.area)),
        le-leb (8 * p.start + (p.row + 1) * p.bits) (8 * o.column.size) (laid.rows.inside at row_there),
      )
      (or_true (eqb p.bits 0))

  -- so its answer is the value of its packed number, or 14
  pub row_answers : row_at o.column o.table s r ≡ asked_as r (value_of o s at)
  unfolding row_in
  row_answers = rw (lt-ltb r o.column.window.rows h, row_fits_lem)

  -- the same through a lent table that the opening filled
  pub answer_is : (table : List Block) → room ≤ length table → answered o table s r ≡ asked_as r (value_of o s at)
  answer_is table enough = filled_row o table s r (omega (arith, laid.table)) (laid.rows.present at row_there) ∙ row_answers

-- ---- a row's packed number and its bits

module _ (o : Loaded) (s t : List ℕ) (len : length s ≡ length t) (r : ℕ) where
  place : Place
  place = place_of o.column (block_at o.table (r / 512)) r

  -- the byte where the row's run of numbers starts
  from : ℕ
  unfolding place
  from = o.column.start + place.start

  rest_long : (a : ℕ) → length (drop a s) ≡ length (drop a t)
  rest_long a = length-drop a s ∙ ap (λ (n : ℕ). n - a) len ∙ sym (length-drop a t)

  -- the row's bits, counted from that byte, are its own
  owned : (k : ℕ) → k < place.bits → Owns o r (8 * from + (place.row * place.bits + k))
  unfolding place from
  owned k h = (omega arith, omega arith)

  -- a row whose bits agree has one packed number
  pub packed_same : SameBits o s t r → packed_of o.column (block_at o.table (r / 512)) s r ≡ packed_of o.column (block_at o.table (r / 512)) t r
  unfolding packed_of place from
  packed_same same =
      locality place.bits (drop from s) (drop from t) place.row (rest_long from)
      (λ (k : ℕ) (h : k < place.bits).
      bit_at-drop s from (place.row * place.bits + k) ∙ same (8 * from + (place.row * place.bits + k)) (owned k h)
      ∙ sym (bit_at-drop t from (place.row * place.bits + k)))

  -- and one packed number comes from bits that agree
  pub bits_same : packed_of o.column (block_at o.table (r / 512)) s r ≡ packed_of o.column (block_at o.table (r / 512)) t r → SameBits o s t r
  unfolding packed_of place from
  bits_same e k own =
      let w = place.bits in
      let i = place.row in
      let j = k - (8 * from + i * w) in
      let inside : j < w = omega (arith, own.0, own.1) in
      let here : 8 * from + (i * w + j) ≡ k = omega (arith, own.0) in
      let equal : bit_at (drop from s) (i * w + j) ≡ bit_at (drop from t) (i * w + j) = row_bits w (drop from s) (drop from t) i (rest_long from) e j inside in
      subst (λ (n : ℕ). bit_at s n ≡ bit_at t n) here (sym (bit_at-drop s from (i * w + j)) ∙ equal ∙ bit_at-drop t from (i * w + j))

-- a packed number of a legal width is below 2^64
pub packed_small : (o : Loaded) (s : List ℕ) (r : ℕ) → legal (place_of o.column (block_at o.table (r / 512)) r).bits ≡ true → packed_of o.column (block_at o.table (r / 512)) s r < 2 ^ 64
unfolding packed_of
packed_small o s r lawful =
    let p = place_of o.column (block_at o.table (r / 512)) r in
    let most : 2 ^ p.bits ≤ 2 ^ 64 = pow-le-pow_right {n = 2} (lit< tt) (legal_most p.bits lawful) in
    omega (arith, most, unpack_below p.bits (drop (o.column.start + p.start) s) p.row)

-- ---- another packed number answers otherwise, unless both answers are 14

-- line plus packed number tells packed numbers apart
add_apart : (a n m : ℕ) → n < 2 ^ 64 → m < 2 ^ 64 → mod_add a n ≡ mod_add a m → n ≡ m
add_apart a n m hn hm e = omega arith

-- so does minimum + gcd · multiple
scale_apart : (low step n m : ℕ) → 0 < step → low + step * n ≡ low + step * m → n ≡ m
scale_apart low step n m some e = eq_of_mul-eq-mul_left step some n m (omega arith)

-- the row named as it was asked for
asked_demand : (test : Bool) (r q v : ℕ) → asked_as r (demand test 14 (q ∷ []) >> value v) ≡ (demand test 14 (r ∷ []) >> value v)
asked_demand true r q v = refl
asked_demand false r q v = refl

-- two tested values
told_asked : (s t : Bool) (r q x y : ℕ) → (x ≡ y → ⊥) → Differ r (asked_as r (demand s 14 (q ∷ []) >> value x)) (asked_as r (demand t 14 (q ∷ []) >> value y))
told_asked s t r q x y d = rw (asked_demand s r q x, asked_demand t r q y) (told-apart s t 14 (r ∷ []) x y d)

-- so does a row's value
pub value_tells : (codec : Codec) (col : Column) (b : Block) (r q n m : ℕ) → 0 < col.gcd → n < 2 ^ 64 → m < 2 ^ 64 → (n ≡ m → ⊥)
    → Differ r (asked_as r (value_in codec col b q n)) (asked_as r (value_in codec col b q m))
unfolding value_in
value_tells Bitpacked col b r q n m some hn hm d =
    told_asked (leb n col.count) (leb m col.count) r q (col.minimum + col.gcd * n) (col.minimum + col.gcd * m)
    (λ e. d (scale_apart col.minimum col.gcd n m some e))
value_tells (Linear l w) col b r q n m some hn hm d =
    let x = mod_add (line_at l q) n in
    let y = mod_add (line_at l q) m in
    told_asked (leb col.minimum x && leb x (col.minimum + col.gcd * col.count)) (leb col.minimum y && leb y (col.minimum + col.gcd * col.count))
    r q x y (λ e. d (add_apart (line_at l q) n m hn hm e))
value_tells Blockwise col b r q n m some hn hm d =
    let x = mod_add (line_at b.line (q % 512)) n in
    let y = mod_add (line_at b.line (q % 512)) m in
    told_asked (leb x col.count) (leb y col.count) r q (col.minimum + col.gcd * x) (col.minimum + col.gcd * y)
    (λ e. d (add_apart (line_at b.line (q % 512)) n m hn hm (scale_apart col.minimum col.gcd x y some e)))

-- ---- what a row of an opened column can answer

-- a value, or 14 for the row as it was asked for
abbrev pub ValueOr14 : (r : ℕ) → Outcome ℕ → Type 0
ValueOr14 r o = ((v : ℕ) × (o ≡ value v)) ⊎ (o ≡ refusal 14 (r ∷ []))

-- a tested value
tested : (test : Bool) (r q v : ℕ) → ValueOr14 r (asked_as r (demand test 14 (q ∷ []) >> value v))
tested true r q v = inl (v, refl)
tested false r q v = inr refl

-- so is each row's
pub value_or_14 : (codec : Codec) (col : Column) (b : Block) (r q n : ℕ) → ValueOr14 r (asked_as r (value_in codec col b q n))
unfolding value_in
value_or_14 Bitpacked col b r q n = tested (leb n col.count) r q (col.minimum + col.gcd * n)
value_or_14 (Linear l w) col b r q n =
    let v = mod_add (line_at l q) n in
    tested (leb col.minimum v && leb v (col.minimum + col.gcd * col.count)) r q v
value_or_14 Blockwise col b r q n =
    let m = mod_add (line_at b.line (q % 512)) n in
    tested (leb m col.count) r q (col.minimum + col.gcd * m)

-- a row of any window in it, read with the table that its opening filled, has a value or is refused 14: never 12, never 13
pub own_row : (s : List ℕ) (table : List Block) (o : Loaded) → opened s (length table) ≡ value o → (w : Window) → LiesIn w o → (r : ℕ) → r < w.rows
    → ValueOr14 r (answered (in_window o w) table s r)
own_row s table o e w inside r h =
    rw (answer_is (laid_in (opened_laid s (length table) o e) w inside) s (omega arith) r h table (omega arith))
    (value_or_14 o.column.codec (windowed o.column w) (block_at o.table ((w.first + r) / 512)) r (w.first + r)
    (packed_of (windowed o.column w) (block_at o.table ((w.first + r) / 512)) s (w.first + r)))
