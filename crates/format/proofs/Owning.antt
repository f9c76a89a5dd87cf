-- The rows that a byte names are those that own a bit of it.
--     Has                                             a number of w bits has a bit in a byte
--     run_owns, owns_run, run_some, run_none          the rows of one run
--     AreaOwned, bitpacked_owned, linear_owned, blockwise_owned
--                                                     the rows of a codec's area
--     all_owned
--     owners_filled                                   a lent table that was filled names the same rows
-- Assumes nothing.
use Rattle.std.specs.Option.{option_or}
use Rattle.std.specs.Prelude.{Option, Some, None}
use Prim.Native.Nat.{ℕ, zero, suc, ◌+◌, ◌-◌, ◌*◌, ◌/◌, ◌%◌, ◌≤◌, ◌<◌, min, max}
use mathlib.Core.Path.{◌≡◌, refl, ap, ◌∙◌, subst}
use mathlib.Core.Bool.{Bool, true, false, ◌&&◌}
use mathlib.Core.Logic.{⊎_elim}
use mathlib.Core.List.{List, []}
use native.Mathlib.Nat.{div-lt_iff_lt-mul, div-mul-le_self, le-div_iff_mul-le, mul_comm, mul-zero, mul-le-mul_right}
use native.Mathlib.Omega.{arith}
use lib.Dec.{ltb, leb}
use lib.ListN.{length, take}
use lib.Seq.{sets}
use borrow.Author.Tests.{ltb-true, leb-true, lt-ltb, le-ltb, le-leb, lt-leb}
use Rattle.format.specs.declared.Codec.{Codec}
use Rattle.format.specs.declared.Codec.TheVariants.{Bitpacked, Linear, Blockwise}
use Rattle.format.specs.declared.Block.{Block}
use Rattle.format.specs.declared.Column.{Column}
use Rattle.format.specs.declared.Fields.{Fields}
use Rattle.format.specs.declared.Head.{Head}
use Rattle.format.specs.Outcome.{Outcome.value, pick}
use Rattle.format.specs.Word.{bytes_for}
use Rattle.format.specs.Packing.{width, legal}
use Rattle.format.specs.Bodies.{block_count}
use Rattle.format.specs.Opening.{Loaded, Table, opened}
use Rattle.format.specs.Reading.{place_in, block_at}
use Rattle.format.specs.Parts.{Run, run_owners, block_run, block_owners, area_owners, owners_at}
use Rattle.format.specs.Demands.{filled_by}
use Rattle.format.specs.Blame.{Named, Owned, AllOwned}
use Rattle.format.proofs.Tests.{and_left, and_right}
use Rattle.format.proofs.Lists.{below_or}
use Rattle.format.proofs.Widths.{width-legal}
use Rattle.format.proofs.LineFields.{fields_read}
use Rattle.format.proofs.Tables.{end_at, BlocksRead, blocks_read, blocks_lawful, blocks_order}
use Rattle.format.proofs.Openings.{OpensBitpacked, OpensLinear, OpensBlockwise, bitpacked_of, linear_of, blockwise_of, footer_end, footer_start, by_opening}
use Rattle.format.proofs.Rows.{filled_block}

-- number q of those of w bits that stand from byte a on has a bit in byte i
abbrev pub Has : (a w q i : ℕ) → Type 0
Has a w q i = (k : ℕ) × (8 * i ≤ k) × (k < 8 * i + 8) × ((8 * a + q * w ≤ k) × (k < 8 * a + q * w + w))

-- ---- the rows of one run

-- a product that is some has factors that are
some_factor : (a b : ℕ) → 0 < a * b → 0 < b
some_factor a zero h = absurd (omega (arith, mul-zero a))
some_factor a (suc b) h = omega arith

-- the rows from that of a byte's first bit to that of its last are those that have a bit in it
module _ (w bit q : ℕ) (some : 0 < w) where
  meets : bit / w ≤ q → q ≤ (bit + 7) / w → (bit < q * w + w) × (q * w ≤ bit + 7)
  meets low high =
      let late : bit < (q + 1) * w = (div-lt_iff_lt-mul {k = w} {x = bit} {y = q + 1} some).0 (omega arith) in
      let early : q * w ≤ bit + 7 = (le-div_iff_mul-le {k = w} {x = q} {y = bit + 7} some).0 high in
      (omega arith, early)

  met : bit < q * w + w → q * w ≤ bit + 7 → (bit / w ≤ q) × (q ≤ (bit + 7) / w)
  met late early =
      let behind : bit < (q + 1) * w = omega arith in
      let low : bit / w < q + 1 = (div-lt_iff_lt-mul {k = w} {x = bit} {y = q + 1} some).1 behind in
      (omega arith, (le-div_iff_mul-le {k = w} {x = q} {y = bit + 7} some).1 early)

-- a run's answer for byte j
record RunNames (u : Run) (j r : ℕ) : Type 0 where
  row : ℕ
  is : r ≡ u.first + row
  few : row < u.rows
  wide : 0 < u.bits
  low : u.start ≤ j
  begins : row * u.bits ≤ 8 * (j - u.start) + 7
  ends : 8 * (j - u.start) < row * u.bits + u.bits

run_names : (u : Run) (j r : ℕ) → Named (run_owners u j) r → RunNames u j r
unfolding run_owners
run_names u j r named = go (legal u.bits && leb u.start j && ltb (8 * (j - u.start)) (u.rows * u.bits)) refl named
  where
    go : (t : Bool) → (legal u.bits && leb u.start j && ltb (8 * (j - u.start)) (u.rows * u.bits)) ≡ t
        → Named (pick t (Some (u.first + 8 * (j - u.start) / u.bits, u.first + min ((8 * (j - u.start) + 7) / u.bits) (u.rows - 1))) None) r → RunNames u j r
    go false e named = absurd named
    go true e named =
        let rest : (legal u.bits && leb u.start j) ≡ true = and_left (legal u.bits && leb u.start j) _ e in
        let low : u.start ≤ j = leb-true u.start j (and_right (legal u.bits) _ rest) in
        let bit : 8 * (j - u.start) < u.rows * u.bits = ltb-true (8 * (j - u.start)) (u.rows * u.bits) (and_right (legal u.bits && leb u.start j) _ e) in
        let q = r - u.first in
        let wide : 0 < u.bits = some_factor u.rows u.bits (omega arith) in
        let many : 0 < u.rows = some_factor u.bits u.rows (omega (arith, mul_comm u.rows u.bits)) in
        let both = meets u.bits (8 * (j - u.start)) q wide (omega (arith, named.0)) (omega (arith, named.1)) in
        record { row = q; is = omega (arith, named.0); few = omega (arith, named.1); wide = wide; low = low; begins = both.1; ends = both.0 }

-- those rows have a bit in the byte
pub run_owns : (u : Run) (c i r : ℕ) → c ≤ i → Named (run_owners u (i - c)) r → (q : ℕ) × (r ≡ u.first + q) × (q < u.rows) × Has (c + u.start) u.bits q i
run_owns u c i r late named =
    let n = run_names u (i - c) r named in
    let q = n.row in
    let w = u.bits in
    let a = c + u.start in
    let begins = n.begins in
    let ends = n.ends in
    let low = n.low in
    let wide = n.wide in
    (q, n.is, n.few, (max (8 * i) (8 * a + q * w), omega arith, omega arith, (omega arith, omega arith)))

-- and those that have are named
pub owns_run : (u : Run) (c i q : ℕ) → legal u.bits ≡ true → q < u.rows → Has (c + u.start) u.bits q i
    → (c + u.start ≤ i) × Named (run_owners u (i - c)) (u.first + q)
unfolding run_owners
owns_run u c i q lawful few (k, low, high, (begins, ends)) =
    let w = u.bits in
    let bit = 8 * (i - c - u.start) in
    let late : c + u.start ≤ i = omega arith in
    let wide : 0 < w = omega arith in
    let both = met w bit q wide (omega arith) (omega arith) in
    let most : (q + 1) * w ≤ u.rows * w = mul-le-mul_right {m = q + 1} {n = u.rows} w (omega arith) in
    let inside : bit < u.rows * w = omega arith in
    (late, rw (lawful, le-leb u.start (i - c) (omega arith), lt-ltb bit (u.rows * w) inside) (omega (arith, both.0), omega (arith, both.1)))

-- a byte of the run has a row
pub run_some : (u : Run) (j : ℕ) → legal u.bits ≡ true → u.start ≤ j → j < u.start + bytes_for (u.bits * u.rows) → (q : ℕ) × (q < u.rows) × Named (run_owners u j) (u.first + q)
run_some u j lawful low high =
    let w = u.bits in
    let bit = 8 * (j - u.start) in
    let swap : u.rows * w ≡ w * u.rows = mul_comm u.rows w in
    let inside : bit < u.rows * w = omega arith in
    let wide : 0 < w = some_factor u.rows w (omega arith) in
    let q = bit / w in
    let few : q < u.rows = (div-lt_iff_lt-mul {k = w} {x = bit} {y = u.rows} wide).1 inside in
    let here = meets w bit q wide (omega arith) ((le-div_iff_mul-le {k = w} {x = q} {y = bit + 7} wide).1 (omega (arith, div-mul-le_self bit w))) in
    let same : j - 0 ≡ j = omega arith in
    (q, few, subst (λ (k : ℕ). Named (run_owners u k) (u.first + q)) same (owns_run u 0 j q lawful few (max (8 * j) (8 * (0 + u.start) + q * w), omega arith, omega (arith, here.0, here.1), (omega arith, omega (arith, here.0, here.1)))).1)

-- a byte behind it has none
pub run_none : (u : Run) (j : ℕ) → u.start + bytes_for (u.bits * u.rows) ≤ j → run_owners u j ≡ None
unfolding run_owners
run_none u j high =
    let w = u.bits in
    let swap : u.rows * w ≡ w * u.rows = mul_comm u.rows w in
    rw (le-ltb (8 * (j - u.start)) (u.rows * w) (omega arith)) (none (legal w) (leb u.start j))
  where
    none : (a b : Bool) → pick {A = Option (ℕ × ℕ)} (a && b && false) (Some (u.first + 8 * (j - u.start) / u.bits, u.first + min ((8 * (j - u.start) + 7) / u.bits) (u.rows - 1))) None ≡ None
    none true true = refl
    none true false = refl
    none false true = refl
    none false false = refl

-- ---- the rows of a codec's area

-- the rows named for a byte are those that have a bit in it, wherever the area begins; and each byte of the area has one
pub record AreaOwned (codec : Codec) (count rows size : ℕ) (table : List Block) : Type 0 where
  pub named : (c i r : ℕ) → c ≤ i → Named (area_owners codec count rows table (i - c)) r
      → (r < rows) × (let p = place_in codec count (block_at table (r / 512)) r in Has (c + p.start) p.bits p.row i)
  pub all : (c i r : ℕ) → r < rows → (let p = place_in codec count (block_at table (r / 512)) r in Has (c + p.start) p.bits p.row i)
      → (c ≤ i) × Named (area_owners codec count rows table (i - c)) r
  pub some : (j : ℕ) → j < size → (r : ℕ) × Named (area_owners codec count rows table j) r

-- one run of all rows
abbrev whole : (bits rows : ℕ) → Run
whole bits rows = record { start = 0; bits = bits; first = 0; rows = rows }

module _ (w rows : ℕ) (lawful : legal w ≡ true) where
  whole-named : (c i r : ℕ) → c ≤ i → Named (run_owners (whole w rows) (i - c)) r → (r < rows) × Has (c + 0) w r i
  whole-named c i r late named =
      let n = run_owns (whole w rows) c i r late named in
      let same : n.0 ≡ r = omega (arith, n.1) in
      (omega (arith, n.2), subst (λ (q : ℕ). Has (c + 0) w q i) same n.3)

  whole_all : (c i r : ℕ) → r < rows → Has (c + 0) w r i → (c ≤ i) × Named (run_owners (whole w rows) (i - c)) r
  whole_all c i r few has =
      let n = owns_run (whole w rows) c i r lawful few has in
      let same : 0 + r ≡ r = omega arith in
      (omega (arith, n.0), subst (λ (q : ℕ). Named (run_owners (whole w rows) (i - c)) q) same n.1)

  whole_some : (j : ℕ) → j < bytes_for (w * rows) → (r : ℕ) × Named (run_owners (whole w rows) j) r
  whole_some j h =
      let n = run_some (whole w rows) j lawful (omega arith) (omega arith) in
      (0 + n.0, n.2)

pub bitpacked_owned : (count rows : ℕ) → AreaOwned Bitpacked count rows (bytes_for (width count * rows)) []
unfolding place_in area_owners
bitpacked_owned count rows = record {
  named = whole-named (width count) rows (width-legal count);
  all = whole_all (width count) rows (width-legal count);
  some = whole_some (width count) rows (width-legal count);
}

pub linear_owned : (count rows : ℕ) (f : Fields) → legal f.bits ≡ true → AreaOwned (Linear f.line f.bits) count rows (bytes_for (f.bits * rows)) []
unfolding place_in area_owners
linear_owned count rows f lawful = record {
  named = whole-named f.bits rows lawful;
  all = whole_all f.bits rows lawful;
  some = whole_some f.bits rows lawful;
}

-- ---- blocks

-- the rows that some blocks name are those that one of them names
block_names_lem : (t : List Block) (rows j r n k : ℕ) → Named (block_owners t rows k n j) r → (m : ℕ) × (k ≤ m) × (m < k + n) × Named (run_owners (block_run t rows m) j) r
unfolding block_owners
block_names_lem t rows j r zero k named = absurd named
block_names_lem t rows j r (suc n) k named = go (run_owners (block_run t rows k) j) refl (λ later. block_names_lem t rows j r n (suc k) later) named
  where
    go : (a : Option (ℕ × ℕ)) → run_owners (block_run t rows k) j ≡ a
        → (Named (block_owners t rows (suc k) n j) r → (m : ℕ) × (suc k ≤ m) × (m < suc k + n) × Named (run_owners (block_run t rows m) j) r)
        → Named (option_or a (block_owners t rows (suc k) n j)) r → (m : ℕ) × (k ≤ m) × (m < k + suc n) × Named (run_owners (block_run t rows m) j) r
    go (Some (f, l)) e rest named = (k, omega arith, omega arith, rw e named)
    go None e rest named =
        let later = rest named in
        (later.0, omega (arith, later.1), omega (arith, later.2), later.3)

-- what one answer names, it names before another too
named_first : (a b : Option (ℕ × ℕ)) (r : ℕ) → Named a r → Named (option_or a b) r
named_first (Some (f, l)) b r named = named
named_first None b r named = absurd named

-- the rows of the first block that names any are named by all
names_block : (t : List Block) (rows j r m n k : ℕ) → k ≤ m → m < k + n → ((b : ℕ) → b < m → run_owners (block_run t rows b) j ≡ None)
    → Named (run_owners (block_run t rows m) j) r → Named (block_owners t rows k n j) r
unfolding block_owners
names_block t rows j r m zero k low high none named = absurd (omega arith)
names_block t rows j r m (suc n) k low high none named =
    ⊎_elim
    (λ (before : k < m). rw (none k before) (names_block t rows j r m n (suc k) before (omega arith) none named))
    (λ (late : m ≤ k).
    let here : m ≡ k = omega arith in
    named_first (run_owners (block_run t rows k) j) (block_owners t rows (suc k) n j) r (subst (λ (b : ℕ). Named (run_owners (block_run t rows b) j) r) here named))
    (below_or k m)

module _ {s : List ℕ} {at rows : ℕ} {t : Table} (b : BlocksRead (block_count rows) s at 0 rows t) where
  -- blocks before that of a byte name none
  none_before : (m j : ℕ) → m < block_count rows → (block_at t.blocks m).start ≤ j → (e : ℕ) → e < m → run_owners (block_run t.blocks rows e) j ≡ None
  none_before m j h low e before = run_none (block_run t.blocks rows e) j (omega (arith, blocks_order b e m before h))

  -- a byte of the area lies in a block
  block_of_lem : (m j : ℕ) → m < block_count rows → j < end_at rows t.blocks m
      → (e : ℕ) × (e < block_count rows) × ((block_at t.blocks e).start ≤ j) × (j < end_at rows t.blocks e)
  block_of_lem zero j h high = (zero, h, omega (arith, b.first h), high)
  block_of_lem (suc m) j h high =
      ⊎_elim
      (λ (before : j < (block_at t.blocks (suc m)).start). block_of_lem m j (omega arith) (omega (arith, b.next m h)))
      (λ (low : (block_at t.blocks (suc m)).start ≤ j). (suc m, h, low, high))
      (below_or j (block_at t.blocks (suc m)).start)

  pub blockwise_owned : (count : ℕ) → AreaOwned Blockwise count rows t.area t.blocks
  unfolding place_in area_owners
  blockwise_owned count = record { named = named; all = all; some = some }
    where
      named : (c i r : ℕ) → c ≤ i → Named (block_owners t.blocks rows 0 (block_count rows) (i - c)) r
          → (r < rows) × Has (c + (block_at t.blocks (r / 512)).start) (block_at t.blocks (r / 512)).bits (r % 512) i
      named c i r late name =
          let n = block_names_lem t.blocks rows (i - c) r (block_count rows) 0 name in
          let m = n.0 in
          let u = run_owns (block_run t.blocks rows m) c i r late n.3 in
          let q = u.0 in
          let is : r ≡ 512 * m + q = u.1 in
          let few : q < min (rows - 512 * m) 512 = u.2 in
          let block : m ≡ r / 512 = omega arith in
          let row : q ≡ r % 512 = omega arith in (
            omega arith,
            subst (λ (e : ℕ). Has (c + (block_at t.blocks e).start) (block_at t.blocks e).bits (r % 512) i) block
                (subst (λ (e : ℕ). Has (c + (block_at t.blocks m).start) (block_at t.blocks m).bits e i) row u.3),
          )

      all : (c i r : ℕ) → r < rows → Has (c + (block_at t.blocks (r / 512)).start) (block_at t.blocks (r / 512)).bits (r % 512) i
          → (c ≤ i) × Named (block_owners t.blocks rows 0 (block_count rows) (i - c)) r
      all c i r h has =
          let m = r / 512 in
          let there : m < block_count rows = omega arith in
          let u = owns_run (block_run t.blocks rows m) c i (r % 512) (blocks_lawful b m there) (omega arith) has in
          let row : 512 * m + r % 512 ≡ r = omega arith in (
            omega (arith, u.0),
            names_block t.blocks rows (i - c) r m (block_count rows) 0 (omega arith) (omega arith) (none_before m (i - c) there (omega (arith, u.0)))
                (subst (λ (e : ℕ). Named (run_owners (block_run t.blocks rows m) (i - c)) e) row u.1),
          )

      some : (j : ℕ) → j < t.area → (r : ℕ) × Named (block_owners t.blocks rows 0 (block_count rows) j) r
      some j h =
          ⊎_elim
          (λ (any : 0 < block_count rows).
          let last = block_count rows - 1 in
          let m = block_of_lem last j (omega arith) (omega (arith, b.last last (omega arith))) in
          let u = run_some (block_run t.blocks rows m.0) j (blocks_lawful b m.0 m.1) m.2 m.3 in
          (512 * m.0 + u.0, names_block t.blocks rows j (512 * m.0 + u.0) m.0 (block_count rows) 0 (omega arith) (omega (arith, m.1)) (none_before m.0 j m.1 m.2) u.2))
          (λ (none : block_count rows ≤ 0). absurd (omega (arith, b.none (omega arith))))
          (below_or 0 (block_count rows))

-- ---- what opens

owners_before : (col : Column) (t : List Block) (i : ℕ) → i < col.start → owners_at col t i ≡ None
unfolding owners_at
owners_before col t i h = rw (lt-leb col.start i h)

owners_within : (col : Column) (t : List Block) (i : ℕ) → col.start ≤ i → owners_at col t i ≡ area_owners col.codec col.count col.rows t (i - col.start)
unfolding owners_at
owners_within col t i h = rw (le-leb col.start i h)

-- from the area to the column
area_owned : (o : Loaded) → AreaOwned o.column.codec o.column.count o.column.rows o.column.size o.table → (i : ℕ) → Owned o i
area_owned o a i = ⊎_elim before within (below_or i o.column.start)
  where
    before : i < o.column.start → Owned o i
    before h =
        let e = owners_before o.column o.table i h in
        record {
          named = λ (r : ℕ) (name : Named (owners_at o.column o.table i) r). absurd (rw e at name);
          all = λ (r : ℕ) few has. absurd (omega (arith, (a.all o.column.start i r few has).0));
          some = λ low high. absurd (omega arith);
        }

    within : o.column.start ≤ i → Owned o i
    within h =
        let e = owners_within o.column o.table i h in
        record {
          named = λ (r : ℕ) (name : Named (owners_at o.column o.table i) r). a.named o.column.start i r h (rw e at name);
          all = λ (r : ℕ) few has. rw e (a.all o.column.start i r few has).1;
          some = λ low high.
              let n = a.some (i - o.column.start) (omega arith) in
              (n.0, rw e n.1);
        }

pub all_owned : AllOwned
all_owned s room = by_opening (λ (o : Loaded). (i : ℕ) → Owned o i) s room of_bitpacked of_linear of_blockwise
  where
    of_bitpacked : (h : Head) → OpensBitpacked s h → (i : ℕ) → Owned (bitpacked_of h) i
    of_bitpacked h f = area_owned (bitpacked_of h) (bitpacked_owned h.count h.rows)

    of_linear : (h : Head) (g : Fields) → OpensLinear s h g → (i : ℕ) → Owned (linear_of h g) i
    of_linear h g f = area_owned (linear_of h g) (linear_owned h.count h.rows g (fields_read s h.next g f.fields).lawful)

    of_blockwise : (h : Head) (t : Table) → OpensBlockwise s h room t → (i : ℕ) → Owned (blockwise_of h t) i
    of_blockwise h t f =
        area_owned (blockwise_of h t) (blockwise_owned (blocks_read (block_count h.rows) (take (footer_end s) s) (footer_start s) 0 h.rows t f.blocks) h.count)

-- ---- a lent table that was filled

-- blocks that agree name the same rows
blocks_alike : (t u : List Block) (rows j n k : ℕ) → ((b : ℕ) → b < k + n → block_at t b ≡ block_at u b) → block_owners t rows k n j ≡ block_owners u rows k n j
unfolding block_owners
blocks_alike t u rows j zero k same = refl
blocks_alike t u rows j (suc n) k same =
    ap (λ (b : Block). option_or (run_owners (record { start = b.start; bits = b.bits; first = 512 * k; rows = min (rows - 512 * k) 512 }) j) (block_owners t rows (suc k) n j)) (same k (omega arith))
    ∙ ap (λ (later : Option (ℕ × ℕ)). option_or (run_owners (block_run u rows k) j) later) (blocks_alike t u rows j n (suc k) (λ (b : ℕ) (h : b < suc k + n). same b (omega arith)))

-- where a lent table that was filled holds a column's blocks, it names the rows that the opening's own blocks name
pub owners_filled : (s : List ℕ) (room : ℕ) (o : Loaded) → opened s room ≡ value o → (table : List Block) → room ≤ length table → (i : ℕ)
    → owners_at o.column (filled_by o table) i ≡ owners_at o.column o.table i
unfolding owners_at area_owners
owners_filled s room o e table enough i =
    by_opening (λ (o : Loaded). owners_at o.column (filled_by o table) i ≡ owners_at o.column o.table i) s room
    (λ (h : Head) (f : OpensBitpacked s h). refl)
    (λ (h : Head) (g : Fields) (f : OpensLinear s h g). refl)
    (λ (h : Head) (t : Table) (f : OpensBlockwise s h room t).
    let b = blocks_read (block_count h.rows) (take (footer_end s) s) (footer_start s) 0 h.rows t f.blocks in
    ap (λ (named : Option (ℕ × ℕ)). pick (leb h.next i) named None)
    (blocks_alike (sets table 0 t.blocks) t.blocks h.rows (i - h.next) (block_count h.rows) 0
    (λ (k : ℕ) (below : k < 0 + block_count h.rows). filled_block table t.blocks k (omega (arith, b.long, f.enough)) (omega (arith, b.long)))))
    o e
