-- Rows with equal answers, over any two readings.
--     Passing, pass_more, pass_stops, pass_ends                   a loop over rows
--     equal_by                                                    other readings that agree
--     values_equal                                                chunks that were decoded as a whole
--     shared_none, shared_left_lesser, shared_right_lesser        the size of a chunk of both columns
--     shared_left, shared_right, shared_most, looked_shared       such a chunk
--     chunk_for                                                   a list of a chunk's size
-- Assumes nothing.
use Prim.Native.Nat.{ℕ, ◌+◌, ◌-◌, ◌%◌, ◌^◌, ◌≤◌, ◌<◌, min, max}
use mathlib.Core.Path.{◌≡◌, sym, ap, ◌∙◌}
use mathlib.Core.Bool.{Bool, true, false}
use mathlib.Core.Logic.{⊎_elim}
use mathlib.Core.List.{List}
use native.Mathlib.Nat.{zero-add, eq-or-lt_of_le}
use native.Mathlib.Omega.{arith}
use lib.ListN.{length, get_or}
use Rattle.format.specs.declared.Column.{Column}
use Rattle.format.specs.Comparing.{equal_answers}
use Rattle.format.specs.Outcome.{Outcome, Outcome.value}
use Rattle.format.specs.Reading.{column_row}
use Rattle.format.specs.Runs.{read_run}
use Rattle.format.proofs.Runs.{run_long}
use Rattle.read_row.specs.Chunks.{Chunk, chunk_size}
use Rattle.read_row.proofs.Moving.{chunk-moved}
use Rattle.read_chunk.specs.Stretch.{stretch}
use Rattle.read_chunk.proofs.Stretches.{run_stretch, stretch_value}
use Rattle.compare_walk.specs.declared.equal.Side.{Side}
use Rattle.compare_walk.specs.Equal.{side_row, list_row, EqualFor, shared_size, LookedAt}
use Rattle.compare_walk.specs.Walking.{Same}

-- a row of a run that was decoded
run_row : (read : ℕ → Outcome ℕ) (r n : ℕ) (vs : List ℕ) → read_run read r n ≡ value vs → (i : ℕ) → i < n → read (r + i) ≡ value (get_or vs i 0)
run_row read r n vs e i h =
    let all : stretch read r n ≡ vs = (run_stretch read r n vs e).0 in
    stretch_value read r n i (omega (arith, ap length all, run_long read r n vs e)) ∙ ap (λ (l : List ℕ). value (get_or l i 0)) all

module _ (left right : ℕ → Outcome ℕ) (r size : ℕ) where
  abbrev equal_at : ℕ → Bool
  equal_at i = equal_answers (left (r + i)) (right (r + i))

  -- ---- a loop

  -- the first i rows have equal answers
  pub record Passing (i : ℕ) : Type 0 where
    pub most : i ≤ size
    pub before : (j : ℕ) → j < i → equal_at j ≡ true

  module _ {i : ℕ} (f : Passing i) where
    pub pass_more : i < size → equal_at i ≡ true → Passing (i + 1)
    pass_more h e = record { most = omega arith; before = λ j k. ⊎_elim (λ same. ap equal_at same ∙ e) (λ less. f.before j less) (eq-or-lt_of_le (last j k)) }
      where
        last : (j : ℕ) → j < i + 1 → j ≤ i
        last j k = omega arith

    pub pass_stops : equal_at i ≡ false → EqualFor left right r size i
    pass_stops e = record { most = f.most; before = f.before; next = λ h. e }

    pub pass_ends : size ≤ i → EqualFor left right r size size
    pass_ends h = record { most = omega arith; before = λ j k. f.before j (omega arith); next = λ k. absurd (omega arith) }

  -- ---- other readings

  pub equal_by : (lread rread : ℕ → Outcome ℕ) → Same left lread r size → Same right rread r size → {n : ℕ} → EqualFor left right r size n → EqualFor lread rread r size n
  equal_by lread rread l e {n} f = record { most = f.most; before = λ i h. sym (same i (omega (arith, f.most))) ∙ f.before i h; next = λ h. sym (same n h) ∙ f.next h }
    where
      same : (i : ℕ) → i < size → equal_at i ≡ equal_answers (lread (r + i)) (rread (r + i))
      same i h = rw (l (r + i) (omega arith) (omega arith), e (r + i) (omega arith) (omega arith))

  -- ---- decoded chunks

  pub values_equal : (ls rs : List ℕ) (other : ℕ) → size ≡ other → read_run left r size ≡ value ls → read_run right r other ≡ value rs → {n : ℕ} → EqualFor (list_row ls) (list_row rs) 0 (length ls) n
      → EqualFor left right r size n
  values_equal ls rs other as_many l e {n} f = record { most = omega (arith, f.most, long); before = λ i h. same i (omega (arith, f.most, long)) ∙ f.before i h; next = λ h. same n h ∙ f.next (omega (arith, long)) }
    where
      long : length ls ≡ size
      long = run_long left r size ls l

      same : (i : ℕ) → i < size → equal_at i ≡ equal_answers (list_row ls (0 + i)) (list_row rs (0 + i))
      same i h = rw (run_row left r size ls l i h, run_row right r other rs e i (omega (arith, as_many)), zero-add i)

-- ---- a chunk of both columns

none_of : (a b : ℕ) → 0 ≡ min (chunk_size a 0) (chunk_size b 0)
none_of a b = omega arith

pub shared_none : (left right : Column) (r rows : ℕ) → rows ≡ min left.window.rows right.window.rows → rows ≤ r → 0 ≡ shared_size left right r
shared_none left right r rows is last = let none : min left.window.rows right.window.rows - r ≡ 0 = omega arith in rw none (none_of (column_row left r) (column_row right r))

lesser : {a b n m : ℕ} → n ≡ a → m ≡ b → n < m → n ≡ min a b
lesser e f h = omega arith

lesser_right : {a b n m : ℕ} → n ≡ a → m ≡ b → m ≤ n → m ≡ min a b
lesser_right e f h = omega arith

module _ (left right : Column) (r : ℕ) {rows q p n m : ℕ} (is : rows ≡ min left.window.rows right.window.rows) (l : q ≡ column_row left r % 2 ^ 32) (e : p ≡ column_row right r % 2 ^ 32) (one : n ≡ chunk_size q (rows - r)) (other : m ≡ chunk_size p (rows - r)) where
  of_left : n ≡ chunk_size (column_row left r) (min left.window.rows right.window.rows - r)
  of_left = one ∙ chunk-moved (column_row left r) q (rows - r) l ∙ ap (λ (k : ℕ). chunk_size (column_row left r) (k - r)) is

  of_right : m ≡ chunk_size (column_row right r) (min left.window.rows right.window.rows - r)
  of_right = other ∙ chunk-moved (column_row right r) p (rows - r) e ∙ ap (λ (k : ℕ). chunk_size (column_row right r) (k - r)) is

  pub shared_left_lesser : n < m → n ≡ shared_size left right r
  shared_left_lesser h = lesser of_left of_right h

  pub shared_right_lesser : m ≤ n → m ≡ shared_size left right r
  shared_right_lesser h = lesser_right of_left of_right h

-- so many rows of two chunks
both : (a b rest n : ℕ) → n ≡ min (chunk_size a rest) (chunk_size b rest) → (n ≤ rest) × (a % 512 + n ≤ 512) × (b % 512 + n ≤ 512)
both a b rest n is = (omega (arith, is), omega (arith, is), omega (arith, is))

within-max : (a b : ℕ) {n : ℕ} → n ≤ a → n ≤ max a b
within-max a b h = omega arith

inside_both : (a b r n : ℕ) → n ≤ min a b - r → 0 < n → (r + n ≤ a) × (r + n ≤ b)
inside_both a b r n h more = (omega arith, omega arith)

module _ (left right : Column) (r size : ℕ) (is : size ≡ shared_size left right r) (some : 0 < size) where
  rest : size ≤ min left.window.rows right.window.rows - r
  rest = (both (column_row left r) (column_row right r) _ size is).0

  pub shared_left : Chunk left.window.rows left.window.first r size
  shared_left = record { some = some; inside = (inside_both left.window.rows right.window.rows r size rest some).0; one = (both (column_row left r) (column_row right r) _ size is).1 }

  pub shared_right : Chunk right.window.rows right.window.first r size
  shared_right = record { some = some; inside = (inside_both left.window.rows right.window.rows r size rest some).1; one = (both (column_row left r) (column_row right r) _ size is).2 }

  pub shared_most : size ≤ 512
  shared_most = omega (arith, shared_left.one)

  -- they were looked at
  pub looked_shared : (l e : Side) (lbytes rbytes : List ℕ) → l.column ≡ left → e.column ≡ right → {k n : ℕ} → k ≡ size → EqualFor (side_row l lbytes) (side_row e rbytes) r k n
      → LookedAt l lbytes e rbytes r (record { size = size; equal = n })
  looked_shared l e lbytes rbytes of_left of_right as_many f = record {
    some = some;
    inside = λ h. rw (of_left, of_right) (within-max left.window.rows right.window.rows shared_left.inside);
    lone = rw of_left shared_left.one;
    rone = rw of_right shared_right.one;
    equal = rw as_many at f;
  }

-- a list of a chunk's size
pub chunk_for : {rows first r n m : ℕ} → m ≡ n → Chunk rows first r n → Chunk rows first r m
chunk_for e f = rw e f
