-- From a row of a window to the column's, which the code counts modulo 2^32.
--     unfit_anyway, any_block                   where the window leaves the column, neither the row nor its block matters
--     not_moved, moved-fits, chunk-moved        so the count modulo 2^32 serves
--     out_of_bounds                             the refusal of a value, named as it was asked for
--     moved_run, asked_filled                   a run of rows, named so
-- Assumes nothing.
use Prim.Native.Nat.{ℕ, zero, suc, ◌+◌, ◌-◌, ◌*◌, ◌/◌, ◌%◌, ◌^◌, ◌≤◌, ◌<◌, min}
use mathlib.Core.Path.{◌≡◌, refl, sym, ap, ◌∙◌}
use mathlib.Core.Bool.{Bool, true, false, ◌&&◌}
use mathlib.Core.Logic.{inl, inr, ⊎_elim}
use mathlib.Core.List.{List, [], ◌∷◌, map}
use native.Mathlib.Nat.{add-suc}
use native.Mathlib.Omega.{arith}
use lib.Dec.{ltb, leb}
use lib.ListN.{length}
use borrow.Author.Tests.{le-ltb, leb-true}
use Rattle.format.specs.declared.Block.{Block}
use Rattle.format.specs.declared.Codec.{Codec}
use Rattle.format.specs.declared.Codec.TheVariants.{Bitpacked, Linear, Blockwise}
use Rattle.format.specs.declared.Column.{Column}
use Rattle.format.specs.Outcome.{Outcome, Outcome.value, Outcome.refusal, ◌>>=◌, ◌>>◌, demand, pick}
use Rattle.format.specs.Word.{mod_add}
use Rattle.format.specs.Line.{line_at}
use Rattle.format.specs.Reading.{column_row, window_fits, column_fits, fits, packed_of, value_in, value_at, block_at, asked_as, row_in, row_at}
use Rattle.format.specs.Runs.{read_run, filled_to}
use Rattle.format.proofs.Lists.{below_or}
use Rattle.format.proofs.Outcomes.{not_value}
use Rattle.format.proofs.Rows.{ValueOr14}
use Rattle.read_row.specs.Chunks.{chunk_size}

-- ---- a window that leaves its column

module _ (col : Column) (s : List ℕ) (leaves : window_fits col ≡ false) where
  -- nothing fits
  pub leaves_unfit : (blocks : ℕ) (b : Block) (q : ℕ) → fits col blocks b s q ≡ false
  unfolding fits column_fits
  leaves_unfit blocks b q = rw leaves

  -- so no block matters
  pub unfit_anyway : (blocks : ℕ) (b d : Block) (r : ℕ) → row_in col blocks b s r ≡ row_in col blocks d s r
  unfolding row_in
  unfit_anyway blocks b d r = rw (leaves_unfit blocks b (column_row col r), leaves_unfit blocks d (column_row col r))

-- ---- the column's row, modulo 2^32

module _ (col : Column) (few : col.rows < 2 ^ 32) (r : ℕ) where
  -- nothing is lost in a window that lies in its column
  pub not_moved : r < col.window.rows → col.window.first + col.window.rows ≤ col.rows → column_row col r % 2 ^ 32 ≡ column_row col r
  not_moved h inside = omega arith

  pub moved-fits : (blocks : ℕ) (b : Block) (s : List ℕ) → r < col.window.rows → fits col blocks b s (column_row col r % 2 ^ 32) ≡ fits col blocks b s (column_row col r)
  moved-fits blocks b s h = go (window_fits col) refl
    where
      go : (t : Bool) → window_fits col ≡ t → fits col blocks b s (column_row col r % 2 ^ 32) ≡ fits col blocks b s (column_row col r)
      go true e = ap (fits col blocks b s) (not_moved h (leb-true (col.window.first + col.window.rows) col.rows e))
      go false e = leaves_unfit col s e blocks b (column_row col r % 2 ^ 32) ∙ sym (leaves_unfit col s e blocks b (column_row col r))

  -- the block of that row serves
  pub any_block : (t : List Block) (s : List ℕ) → row_in col (length t) (block_at t (column_row col r % 2 ^ 32 / 512)) s r ≡ row_at col t s r
  unfolding row_in
  any_block t s = ⊎_elim (λ (h : r < col.window.rows). go h (window_fits col) refl) (λ (h : col.window.rows ≤ r). rw (le-ltb r col.window.rows h)) (below_or r col.window.rows)
    where
      go : r < col.window.rows → (u : Bool) → window_fits col ≡ u → row_in col (length t) (block_at t (column_row col r % 2 ^ 32 / 512)) s r ≡ row_at col t s r
      go h true e = ap (λ (q : ℕ). row_in col (length t) (block_at t (q / 512)) s r) (not_moved h (leb-true (col.window.first + col.window.rows) col.rows e))
      go h false e = unfit_anyway col s e (length t) _ _ r

-- a chunk is as long from that row on
pub chunk-moved : (q at left : ℕ) → at ≡ q % 2 ^ 32 → chunk_size at left ≡ chunk_size q left
chunk-moved q at left e =
    let same : at % 512 ≡ q % 512 = omega arith in
    ap (λ (n : ℕ). min left (512 - n)) same

-- ---- a refusal's row

-- what is refused is the row itself, by 14
tested : (test : Bool) (q v : ℕ) → ValueOr14 q (demand test 14 (q ∷ []) >> value v)
tested true q v = inl (v, refl)
tested false q v = inr refl

value_own : (codec : Codec) (col : Column) (b : Block) (q n : ℕ) → ValueOr14 q (value_in codec col b q n)
unfolding value_in
value_own Bitpacked col b q n = tested (leb n col.count) q _
value_own (Linear l w) col b q n =
    let v = mod_add (line_at l q) n in
    tested (leb col.minimum v && leb v (col.minimum + col.gcd * col.count)) q v
value_own Blockwise col b q n = tested (leb (mod_add (line_at b.line (q % 512)) n) col.count) q _

-- a value that was refused
pub out_of_bounds : (col : Column) (b : Block) (s : List ℕ) (r q : ℕ) {number : ℕ} {also : List ℕ} → value_at col b s q ≡ refusal number also → refusal 14 (r ∷ []) ≡ asked_as r (value_at col b s q)
out_of_bounds col b s r q e = go (value_own col.codec col b q (packed_of col b s q))
  where
    go : ValueOr14 q (value_at col b s q) → refusal 14 (r ∷ []) ≡ asked_as r (value_at col b s q)
    go (inl v) = absurd (not_value (sym e ∙ v.1))
    go (inr is) = rw is

-- ---- a run

-- rows named by a later count
abbrev moved : (f : ℕ) → Outcome (List ℕ) → Outcome (List ℕ)
moved f (value vs) = value vs
moved f (refusal number also) = refusal number (map (λ (q : ℕ). q - f) also)

moved_step : (f r v : ℕ) (o : Outcome (List ℕ)) → (moved f o >>= (λ (vs : List ℕ). value (v ∷ vs))) ≡ moved f (o >>= (λ (vs : List ℕ). value (v ∷ vs)))
moved_step f r v (value vs) = refl
moved_step f r v (refusal number also) = refl

module _ (read : ℕ → Outcome ℕ) (own : (q : ℕ) → ValueOr14 q (read q)) (f : ℕ) where
  abbrev asked : ℕ → Outcome ℕ
  asked x = asked_as x (read (f + x))

  pub moved_run : (r n : ℕ) → read_run asked r n ≡ moved f (read_run read (f + r) n)
  unfolding read_run
  moved_run r zero = refl
  moved_run r (suc n) = go (own (f + r)) (moved_run (suc r) n)
    where
      go : ValueOr14 (f + r) (read (f + r)) → read_run asked (suc r) n ≡ moved f (read_run read (f + suc r) n) → read_run asked r (suc n) ≡ moved f (read_run read (f + r) (suc n))
      go (inl v) later = rw (v.1, later, add-suc f r) (moved_step f r v.0 (read_run read (suc (f + r)) n))
      go (inr is) later =
          let back : f + r - f ≡ r = omega arith in
          rw (is, back)

-- what filling a list came to, named so
moved-filled : (f n r : ℕ) (list : List ℕ) → moved f (filled_to n (f + r) list) ≡ filled_to n r list
moved-filled f n r list = go (ltb n (length list))
  where
    back : f + r + n - f ≡ r + n
    back = omega arith

    go : (t : Bool) → moved f (pick t (refusal 14 ((f + r + n) ∷ [])) (value list)) ≡ pick t (refusal 14 ((r + n) ∷ [])) (value list)
    go true = rw back
    go false = refl

-- a chunk that was filled from the column's row on
pub asked_filled : (col : Column) (b : Block) (s list : List ℕ) (r n k : ℕ) → filled_to k (column_row col r) list ≡ read_run (value_at col b s) (column_row col r) n
    → filled_to k r list ≡ read_run (λ (x : ℕ). asked_as x (value_at col b s (column_row col x))) r n
asked_filled col b s list r n k e =
    let f = col.window.first in
    sym (moved-filled f k r list) ∙ ap (moved f) e ∙ sym (moved_run (value_at col b s) (λ (q : ℕ). value_own col.codec col b q (packed_of col b s q)) f r n)
