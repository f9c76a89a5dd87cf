-- Rows that have values whatever their bits are.
--     full_sure, line_sure, block_sure         by the codec
--     never                                    a test that fails
--     chunk_as, looked_as                      a buffer's front of the chunk's size
--     multiples_stand, multiples_fit           rows that have values, as their multiples tell
--     told-fits, looked                        a chunk whose last row has a value, and whose rows have values
-- Assumes nothing.
use Rattle.format.specs.declared.Refusal.{Refusal}
use Rattle.std.specs.Prelude.{Result, Ok}
use Prim.Native.Nat.{ℕ, zero, suc, ◌+◌, ◌-◌, ◌*◌, ◌%◌, ◌^◌, ◌≤◌, ◌<◌}
use mathlib.Core.Path.{◌≡◌, refl, sym, ◌∙◌, subst}
use mathlib.Core.Bool.{Bool, true, false}
use mathlib.Core.Logic.{inl, inr, ⊎_elim}
use mathlib.Core.List.{List, [], ◌∷◌}
use native.Mathlib.Nat.{mul_comm, mul-le-mul_left, eq-or-lt_of_le}
use native.Mathlib.Omega.{arith}
use lib.Dec.{ltb, leb}
use lib.ListN.{length, drop}
use borrow.Author.Tests.{le-leb, le-ltb}
use Rattle.format.specs.declared.Block.{Block}
use Rattle.format.specs.declared.Codec.TheVariants.{Bitpacked, Linear, Blockwise}
use Rattle.format.specs.declared.Column.{Column}
use Rattle.format.specs.declared.Line.{Line}
use Rattle.format.specs.Line.{line_at}
use Rattle.format.specs.Outcome.{Outcome, Outcome.value, ◌>>=◌, ◌>>◌, demand}
use Rattle.format.specs.Packing.{width, unpack}
use Rattle.format.specs.Reading.{place_in, place_of, packed_of, value_in, value_at, column_row, fits, asked_as, row_in, scaled}
use Rattle.format.specs.Runs.{read_run}
use Rattle.format.specs.Word.{mod_add, mod_sub}
use Rattle.format.proofs.Outcomes.{not_value, by_step}
use Rattle.format.proofs.Packing.{unpack_below}
use Rattle.format.proofs.Runs.{run_long}
use Rattle.format.proofs.Words.{add_below}
use Rattle.linear.specs.Reader.{bounded}
use Rattle.read_row.specs.Chunks.{Chunk, DecodedAs, FilledAs, Fitting}
use Rattle.read_row.proofs.Fitting.{chunk_reads}
use Rattle.read_bounds.specs.Looks.{LookedAs, Valued, Sure, Stands, Counted, multiples_of, Near}

-- no test is both
pub never : {A : Type 0} → false ≡ true → A
never e = let z : ◌≡◌ {A = ℕ} 0 1 = cc in absurd (omega arith)

-- a multiple up to the count
scaled_valued : (col : Column) (r m : ℕ) → m ≤ col.count → Valued (scaled col r m)
scaled_valued col r m h = record { number = col.minimum + col.gcd * m; is = rw (le-leb m col.count h) }

-- a value no further above the low bound than the high one
bounded_valued : (low span r v : ℕ) → low + span < 2 ^ 64 → v < 2 ^ 64 → mod_sub v low ≤ span → Valued (bounded low (low + span) r v)
bounded_valued low span r v most fits h =
    let a : low ≤ v = omega arith in
    let b : v ≤ low + span = omega arith in
    record { number = v; is = rw (le-leb low v a, le-leb v (low + span) b) }

module _ (col : Column) (b : Block) (r n : ℕ) where
  pub full_sure : col.codec ≡ Bitpacked → 2 ^ width col.count ≤ col.count + 1 → Sure col b r n
  unfolding value_in packed_of place_in
  full_sure codec full = record {
    each = λ s x low high. rw codec (scaled_valued col x (unpack (width col.count) (drop (col.start + 0) s) x) (omega (arith, unpack_below (width col.count) (drop (col.start + 0) s) x)));
  }

  pub line_sure : {l : Line} {w : ℕ} → col.codec ≡ Linear l w → col.minimum + col.count * col.gcd < 2 ^ 64 → Near l w r (r + (n - 1)) col.minimum (col.gcd * col.count) → Sure col b r n
  unfolding value_in packed_of place_in
  line_sure {l} {w} codec bounds near = record {
    each = λ s x low high.
        rw codec
        (bounded_valued col.minimum (col.gcd * col.count) x (mod_add (line_at l x) (unpack w (drop (col.start + 0) s) x)) (omega (arith, mul_comm col.gcd col.count)) (add_below _ _)
        (near.near x (unpack w (drop (col.start + 0) s) x) low (omega arith) (unpack_below w (drop (col.start + 0) s) x)));
  }

  pub block_sure : col.codec ≡ Blockwise → r % 512 + n ≤ 512 → Near b.line b.bits (r % 512) (r % 512 + (n - 1)) 0 col.count → Sure col b r n
  unfolding value_in packed_of place_in
  block_sure codec one near = record {
    each = λ s x low high.
        let number = unpack b.bits (drop (col.start + b.start) s) (x % 512) in
        let m = mod_add (line_at b.line (x % 512)) number in
        let close : mod_sub m 0 ≤ col.count = near.near (x % 512) number (omega arith) (omega arith) (unpack_below b.bits (drop (col.start + b.start) s) (x % 512)) in
        rw codec (scaled_valued col x m (omega (arith, add_below (line_at b.line (x % 512)) number)));
  }

-- whatever the bytes, so in these
pub sure_stands : {col : Column} {b : Block} {r n : ℕ} (s : List ℕ) → Sure col b r n → Stands col b s r n
sure_stands s h = record { each = h.each s }

-- rows that all have values
run_valued : (read : ℕ → Outcome ℕ) (r n : ℕ) → ((x : ℕ) → r ≤ x → x < r + n → Valued (read x)) → (vs : List ℕ) × (read_run read r n ≡ value vs)
unfolding read_run
run_valued read r zero h = ([], refl)
run_valued read r (suc n) h =
    let v = h r (omega arith) (omega arith) in
    let rest = run_valued read (suc r) n (λ x low high. h x (omega arith) (omega arith)) in
    (v.number ∷ rest.0, rw (v.is, rest.1))

-- and the other way
valued_each : (read : ℕ → Outcome ℕ) (r n : ℕ) (vs : List ℕ) → read_run read r n ≡ value vs → (x : ℕ) → r ≤ x → x < r + n → Valued (read x)
unfolding read_run
valued_each read r zero vs e x low high = absurd (omega arith)
valued_each read r (suc n) vs e x low high =
    by_step (read r) (λ (v : ℕ). read_run read (suc r) n >>= (λ (us : List ℕ). value (v ∷ us))) e
    (λ v q f. by_step (read_run read (suc r) n) (λ (us : List ℕ). value (v ∷ us)) f
    (λ us p g. ⊎_elim
    (λ (is : r ≡ x). record { number = v; is = rw (← is) q })
    (λ (less : r < x). valued_each read (suc r) n us p x less (omega arith))
    (eq-or-lt_of_le low)))

-- ---- rows by their multiples

-- a multiple with a value in the column of multiples
multiple_valued : (col : Column) (x m : ℕ) → Valued (scaled (multiples_of col) x m) → Valued (scaled col x m)
multiple_valued col x m v = by_test (leb m col.count) v
  where
    by_test : (t : Bool) → Valued (demand t 14 (x ∷ []) >> value (0 + 1 * m)) → Valued (demand t 14 (x ∷ []) >> value (col.minimum + col.gcd * m))
    by_test true v = record { number = col.minimum + col.gcd * m; is = refl }
    by_test false v = absurd (not_value v.is)

module _ (col : Column) (b : Block) (s : List ℕ) (r n : ℕ) where
  by_multiples : Counted col.codec → ((x : ℕ) → r ≤ x → x < r + n → Valued (value_at (multiples_of col) b s x)) → Stands col b s r n
  unfolding value_in packed_of place_in
  by_multiples (inl codec) h = record {
    each = λ x low high. rw codec (multiple_valued col x (unpack (width col.count) (drop (col.start + 0) s) x) (rw codec at (h x low high)));
  }
  by_multiples (inr codec) h = record {
    each = λ x low high.
        rw codec (multiple_valued col x (mod_add (line_at b.line (x % 512)) (unpack b.bits (drop (col.start + b.start) s) (x % 512))) (rw codec at (h x low high)));
  }

  -- a list that was filled with all multiples
  pub multiples_stand : (plain : Column) {k m : ℕ} {list : List ℕ} → plain ≡ multiples_of col → Counted col.codec → FilledAs (read_run (value_at plain b s) r k) m r list → k ≡ n → length list ≡ k → m ≡ n → Stands col b s r n
  multiples_stand plain {k} {m} {list} is codec f size long all =
      by_multiples codec
      (λ x low high.
      subst (λ (c : Column). Valued (value_at c b s x)) is
      (valued_each (value_at plain b s) r k list (sym (rw (le-ltb m (length list) (omega arith)) at f.answer)) x low (omega arith)))

  -- what fits still fits
  fit : Fitting col (place_of col b r) s → 1 < col.gcd → Fitting (multiples_of col) (place_of (multiples_of col) b r) s
  fit f some = record {
    bounds = let less : col.count * 1 ≤ col.count * col.gcd = mul-le-mul_left col.count (omega arith) in omega (arith, f.bounds);
    lawful = f.lawful;
    area = f.area;
    inside = f.inside;
  }

  pub multiples_fit : (plain : Column) {k : ℕ} → plain ≡ multiples_of col → k ≡ n → Chunk col.rows 0 r n → Fitting col (place_of col b r) s → 1 < col.gcd
      → Chunk plain.rows 0 r k × Fitting plain (place_of plain b r) s
  multiples_fit plain is size c f some = rw (is, size) (c, fit f some)

asked_valued : (r : ℕ) (o : Outcome ℕ) → Valued o → Valued (asked_as r o)
asked_valued r o v = rw v.is (record { number = v.number; is = refl })

pub chunk_as : {rows first r m n : ℕ} → m ≡ n → Chunk rows first r n → Chunk rows first r m
chunk_as e c = rw e c

pub looked_as : (read : ℕ → Outcome ℕ) (r : ℕ) {m n : ℕ} {d : Result (Unit {0}) Refusal} {list : List ℕ} → m ≡ n → DecodedAs (read_run read r m) d list → length list ≡ m → LookedAs (read_run read r n) n d
looked_as read r {list = list} e f long = record { values = list; long = long ∙ e; found = rw e at f }

module _ (col : Column) (blocks : ℕ) (b : Block) (s : List ℕ) where
  -- a row with a value fits
  pub told-fits : (r v : ℕ) → row_in col blocks b s r ≡ value v → fits col blocks b s (column_row col r) ≡ true
  unfolding row_in
  told-fits r v e = by_test (ltb r col.window.rows) (fits col blocks b s (column_row col r)) refl e
    where
      by_test : (t u : Bool) → fits col blocks b s (column_row col r) ≡ u → (demand t 12 [] >> (demand u 13 [] >> asked_as r (value_at col b s (column_row col r)))) ≡ value v → fits col blocks b s (column_row col r) ≡ true
      by_test true true is f = is
      by_test true false is f = absurd (not_value f)
      by_test false u is f = absurd (not_value f)

  pub looked : (r n v : ℕ) → Chunk col.window.rows col.window.first r n → row_in col blocks b s (r + (n - 1)) ≡ value v → Stands col b s (column_row col r) n → LookedAs (read_run (row_in col blocks b s) r n) n (Ok tt)
  looked r n v c last stands =
      let run = run_valued (λ (x : ℕ). asked_as x (value_at col b s (column_row col x))) r n (λ x low high. asked_valued x _ (stands.each (column_row col x) (omega arith) (omega arith))) in
      record {
        values = run.0;
        long = run_long (λ (x : ℕ). asked_as x (value_at col b s (column_row col x))) r n run.0 run.1;
        found = record { answer = sym (chunk_reads col blocks b s r n c (told-fits (r + (n - 1)) v last) ∙ run.1) };
      }
