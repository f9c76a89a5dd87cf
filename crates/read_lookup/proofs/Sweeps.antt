-- Rows gathered in one pass, and what becomes of a lookup behind it. Over any reading and any test.
--     few_gathered                                a chunk by itself
--     front_rows, front_fits, front_few, front_below   what stands in the list
--     in_part                                     in a part of a list
--     none_yet, more_gathered, refused_later      chunk by chunk
--     swept_to, swept_refused                     a sweep by its answer
--     too_many                                    storing what was gathered
--     is_refused                                  a lookup behind it
--     same_run                                    a column without blocks reads no block
-- Assumes nothing.
use Rattle.std.specs.Prelude.{Result, Ok, Err}
use Prim.Native.Nat.{ℕ, ◌+◌, ◌-◌, ◌/◌, ◌<◌, ◌≤◌}
use mathlib.Core.Path.{◌≡◌, refl, sym, ap, ◌∙◌}
use mathlib.Core.Bool.{Bool, true, false}
use mathlib.Core.List.{List, [], ◌++◌}
use native.Mathlib.Nat.{zero-add}
use native.Mathlib.Omega.{arith}
use lib.ListN.{length, take, drop, length-take, length-drop, length-append}
use lib.Seq.{sets, length-take-le, take-append-add, take-append-le}
use borrow.Author.Tests.{lt-leb}
use Rattle.format.specs.declared.Block.{Block}
use Rattle.format.specs.declared.Codec.{Codec}
use Rattle.format.specs.declared.Codec.TheVariants.{Bitpacked, Linear, Blockwise}
use Rattle.format.specs.declared.Column.{Column}
use Rattle.format.specs.declared.Refusal.{Refusal}
use Rattle.format.specs.declared.Refusal.TheVariants.{ListShort}
use Rattle.format.specs.declared.Window.{Window}
use Rattle.format.specs.Outcome.{Outcome, Outcome.value, Outcome.refusal, ◌>>=◌, pick}
use Rattle.format.specs.Reading.{column_row, block_at, place_in, row_fits, fits, packed_of, value_in, row_in, row_at}
use Rattle.format.specs.Word.{AllBelow}
use Rattle.format.specs.Refusals.{numbered, paper}
use Rattle.format.specs.Runs.{read_run}
use Rattle.format.proofs.Runs.{run_agree, run_long, run_after, run_refused}
use Rattle.read_chunk.specs.Rows.{rows_among}
use Rattle.read_chunk.proofs.Rows.{rows_few, rows_joined}
use Rattle.read_scan.proofs.Scans.{rows_below}
use Rattle.read_lookup.specs.Sweeps.{blockless, Gathered, SweptAs}
use Rattle.format.specs.Calls.{StoredAs}
use Rattle.read_walk.specs.declared.Walk.{Walk}
use Rattle.read_walk.specs.Walks.{Kept.rows_of, kept, InPass}

module _ (test : ℕ → Bool) (read : ℕ → Outcome ℕ) where
  -- ---- a chunk

  -- at most one row a value
  pub few_gathered : {first to n m : ℕ} {old new : List ℕ} → Gathered test read first to n m old new → m ≤ to - first
  few_gathered {first} {to} {n} {m} {old} {new} f = omega (arith, f.count, rows_few test first f.values, run_long read first (to - first) f.values f.run)

  -- what was gathered from the beginning on
  module _ {first to m : ℕ} {old new : List ℕ} (f : Gathered test read first to 0 m old new) where
    pub front_rows : take m new ≡ rows_among test first f.values
    front_rows = ap (λ (k : ℕ). take k new) (sym (zero-add m)) ∙ f.front

    pub front_fits : m ≤ length new
    front_fits = omega (arith, length-take m new, ap length front_rows, f.count)

    pub front_few : length (take m new) ≤ to - first
    front_few = omega (arith, length-take-le m new front_fits, few_gathered f)

    pub front_below : (bound : ℕ) → first ≤ to → to ≤ bound → AllBelow bound (take m new)
    front_below bound since most = rw front_rows (rows_below test first f.values bound (omega (arith, run_long read first (to - first) f.values f.run)))

  -- a part that was lent, and came back as long
  behind : (n m : ℕ) (l part rest rows : List ℕ) → n ≤ length l → m ≤ length part → take (0 + m) part ≡ rows → take (n + m) (take n l ++ (part ++ rest)) ≡ take n l ++ rows
  behind n m l part rest rows h k e =
      ap (λ (j : ℕ). take (j + m) (take n l ++ (part ++ rest))) (sym (length-take-le n l h))
      ∙ take-append-add (take n l) (part ++ rest) m
      ∙ ap (λ (xs : List ℕ). take n l ++ xs) (take-append-le m part rest k ∙ ap (λ (j : ℕ). take j part) (sym (zero-add m)) ∙ e)

  pub in_part : (at size n to : ℕ) (l part : List ℕ) (r : Result (ℕ × ℕ) Refusal) → to ≡ n + size → to ≤ length l → length part ≡ length (take (to - n) (drop n l))
      → SweptAs test read at (at + length (take (to - n) (drop n l))) 0 r (take (to - n) (drop n l)) part → SweptAs test read at (at + size) n r l (take n l ++ (part ++ drop (to - n) (drop n l)))
  in_part at size n to l part r end inside long swept =
      let lent : length (take (to - n) (drop n l)) ≡ size = length-take-le (to - n) (drop n l) (omega (arith, length-drop n l)) ∙ omega arith in
      by_answer r (take (to - n) (drop n l)) (long ∙ lent) (rw lent at swept)
    where
      by_answer : (r : Result (ℕ × ℕ) Refusal) (old : List ℕ) → length part ≡ size → SweptAs test read at (at + size) 0 r old part → SweptAs test read at (at + size) n r l (take n l ++ (part ++ drop (to - n) (drop n l)))
      by_answer (Ok (e, m)) old full f =
          let g = f.told.2 in
          record {
            told = (
              f.told.0,
              f.told.1,
              record {
                values = g.values;
                run = g.run;
                count = g.count;
                front = behind n m l part (drop (to - n) (drop n l)) (rows_among test at g.values) (omega arith) (omega (arith, few_gathered g, f.told.1)) g.front;
              },
            );
          }
      by_answer (Err x) old full f = record { told = f.told }

  -- ---- chunk by chunk

  pub none_yet : (first : ℕ) (l : List ℕ) → Gathered test read first first 0 0 l l
  unfolding read_run rows_among
  none_yet first l = let none : first - first ≡ 0 = omega arith in record { values = []; run = rw none refl; count = refl; front = refl }

  module _ {first at n : ℕ} {old mid : List ℕ} (f : Gathered test read first at 0 n old mid) (since : first ≤ at) where
    here : first + (at - first) ≡ at
    here = omega arith

    pub more_gathered : (to m : ℕ) (new : List ℕ) → at ≤ to → Gathered test read at to n m mid new → Gathered test read first to 0 (n + m) old new
    more_gathered to m new later g =
        let far : to - first ≡ (at - first) + (to - at) = omega arith in
        let there : first + length f.values ≡ at = ap (λ (k : ℕ). first + k) (run_long read first (at - first) f.values f.run) ∙ here in
        let rows : rows_among test first (f.values ++ g.values) ≡ rows_among test first f.values ++ rows_among test at g.values =
        rows_joined test first f.values g.values ∙ ap (λ (k : ℕ). rows_among test first f.values ++ rows_among test k g.values) there in
        record {
          values = f.values ++ g.values;
          run =
              ap (read_run read first) far ∙ run_after read first (at - first) (to - at) f.values f.run
              ∙ ap (λ (r : ℕ). read_run read r (to - at) >>= (λ (l : List ℕ). value (f.values ++ l))) here ∙ rw g.run;
          count = omega (arith, f.count, g.count, ap length rows, length-append (rows_among test first f.values) (rows_among test at g.values));
          front =
              ap (λ (k : ℕ). take k new) (zero-add (n + m)) ∙ g.front
              ∙ ap (λ (l : List ℕ). l ++ rows_among test at g.values) (ap (λ (k : ℕ). take k mid) (sym (zero-add n)) ∙ f.front)
              ∙ sym rows;
        }

    pub refused_later : (end size : ℕ) (x : Refusal) → at + size ≤ end → read_run read at (at + size - at) ≡ numbered x → (new : List ℕ) → SweptAs test read first end 0 (Err x) old new
    refused_later end size x inside run new =
        let far : end - first ≡ (at - first) + ((at + size - at) + (end - (at + size))) = omega arith in
        let stops : read_run read at ((at + size - at) + (end - (at + size))) ≡ refusal (paper x).0 (paper x).1 = run_refused read at (at + size - at) (end - (at + size)) (paper x).0 (paper x).1 run in
        record {
          told =
              ap (read_run read first) far ∙ run_after read first (at - first) ((at + size - at) + (end - (at + size))) f.values f.run
              ∙ ap (λ (r : ℕ). read_run read r ((at + size - at) + (end - (at + size))) >>= (λ (l : List ℕ). value (f.values ++ l))) here ∙ rw stops;
        }

  -- ---- by its answer

  module _ {first end n : ℕ} {r : Result (ℕ × ℕ) Refusal} {old new : List ℕ} (f : SweptAs test read first end n r old new) where
    pub swept_to : {at m : ℕ} → r ≡ Ok (at, m) → (first < at) × (at ≤ end) × Gathered test read first at n m old new
    swept_to is = let g = f.told in rw is at g

    pub swept_refused : {x : Refusal} → r ≡ Err x → read_run read first (end - first) ≡ numbered x
    swept_refused is = let g = f.told in rw is at g

-- ---- storing

module _ (test : ℕ → Bool) (first : ℕ) (values rows before : List ℕ) (is : rows ≡ rows_among test first values) where
  pub too_many : length before < length rows → StoredAs (kept (rows_of test) (length before) first values) (Err (ListShort (length rows))) before before
  too_many h = rw (← is, lt-leb (length rows) (length before) h) (record { answer = refl; list = refl })

-- ---- a lookup behind it

module _ (test : ℕ → Bool) (read : ℕ → Outcome ℕ) {window : Window} {o : Outcome (List ℕ)} {before list : List ℕ} {w : Walk} (f : InPass (rows_of test) read window o before w list) (looks : w.storing ≡ false) where
  untouched : list ≡ before
  untouched = f.list_is ∙ ap (λ (t : Bool). pick t (sets before 0 (rows_among test w.first f.values)) before) looks

  pub is_refused : (x : Refusal) → read_run read w.first (w.end - w.first) ≡ numbered x → StoredAs o (Err x) before list
  is_refused x run =
      let is : o ≡ refusal (paper x).0 (paper x).1 = f.asked ∙ ap (λ (p : Outcome (List ℕ)). p >>= kept (rows_of test) (length before) w.first) run in
      rw is (record { answer = refl; list = untouched })

-- ---- no block is read

place_same : (codec : Codec) (count : ℕ) (b d : Block) (r : ℕ) → blockless codec ≡ true → place_in codec count b r ≡ place_in codec count d r
unfolding place_in
place_same Bitpacked count b d r e = refl
place_same (Linear l w) count b d r e = refl
place_same Blockwise count b d r e = let z : ◌≡◌ {A = ℕ} 0 1 = cc in absurd (omega arith)

value_same : (codec : Codec) (col : Column) (b d : Block) (r n : ℕ) → blockless codec ≡ true → value_in codec col b r n ≡ value_in codec col d r n
unfolding value_in
value_same Bitpacked col b d r n e = refl
value_same (Linear l w) col b d r n e = refl
value_same Blockwise col b d r n e = let z : ◌≡◌ {A = ℕ} 0 1 = cc in absurd (omega arith)

same_row : (col : Column) (t : List Block) (s : List ℕ) (blocks : ℕ) (b : Block) (r : ℕ) → blockless col.codec ≡ true → blocks ≡ length t → row_in col blocks b s r ≡ row_at col t s r
unfolding row_in fits row_fits packed_of
same_row col t s blocks b r e number =
    let d = block_at t (column_row col r / 512) in
    rw (number, place_same col.codec col.count b d (column_row col r) e, value_same col.codec col b d (column_row col r) (packed_of col d s (column_row col r)) e)

pub same_run : (col : Column) (t : List Block) (s : List ℕ) (blocks : ℕ) (b : Block) (r n : ℕ) → blockless col.codec ≡ true → blocks ≡ length t → read_run (row_in col blocks b s) r n ≡ read_run (row_at col t s) r n
same_run col t s blocks b r n e number = run_agree (row_in col blocks b s) (row_at col t s) r n (λ x low high. same_row col t s blocks b x e number)
