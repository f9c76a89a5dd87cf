-- How long a written column is, as statements about the definitions.
-- Assumes nothing.
use Rattle.std.specs.Prelude.{ℕ, zero, suc, ◌+◌, ◌*◌, ◌^◌, ◌≤◌, ◌<◌, max, ◌≡◌, List, map, length, get_or, Some}
use Rattle.format.specs.Outcome.{Outcome.value, Outcome.refusal}
use Rattle.format.specs.Word.{mod_add, AllBelow}
use Rattle.format.specs.Stats.{stats_of}
use Rattle.format.specs.Line.{trained}
use Rattle.format.specs.Bodies.{block_count, block_residuals}
use Rattle.format.specs.Writing.{size_of, written}

-- a column was written by a codec whose estimate is so much
pub record WroteBy (codec : ℕ) (vs cs : List ℕ) (room estimate : ℕ) (bytes : List ℕ) : Type 0 where
  pub column : written vs cs room ≡ value bytes
  pub code : get_or bytes 0 0 ≡ codec
  pub estimated : size_of codec (stats_of vs) vs ≡ Some estimate

-- Bitpacked and Linear write their estimate and the code byte
abbrev pub Exact : Type 0
Exact = (codec : ℕ) (vs cs bytes : List ℕ) (room estimate : ℕ) → codec < 2 → WroteBy codec vs cs room estimate bytes → length bytes ≡ 1 + estimate

-- values all moved by the same amount, modulo 2^64
abbrev pub moved : (amount : ℕ) → List ℕ → List ℕ
moved amount vs = map (λ (v : ℕ). mod_add v amount) vs

-- training on moved values: the slope and every residual stay, the intercept moves with them
pub record TrainsAlike (amount : ℕ) (ys : List ℕ) : Type 0 where
  pub slope : (trained (moved amount ys)).slope ≡ (trained ys).slope
  pub intercept : (trained (moved amount ys)).intercept ≡ mod_add (trained ys).intercept amount
  pub residuals : block_residuals (moved amount ys) ≡ block_residuals ys

-- so it is of any two values or more
abbrev pub Moves : Type 0
Moves = (amount : ℕ) (ys : List ℕ) → AllBelow (2 ^ 64) ys → 2 ≤ length ys → TrainsAlike amount ys

-- Blockwise, with gcd 1, writes at most the code byte, its estimate and nine bytes a block
abbrev pub Near : Type 0
Near =
    (vs cs bytes : List ℕ) (room estimate : ℕ) → AllBelow (2 ^ 64) vs → (stats_of vs).gcd ≡ 1 → WroteBy 2 vs cs room estimate bytes
    → length bytes ≤ 1 + estimate + 9 * block_count (length vs)

-- lengths against estimates
abbrev pub Lengths : Type 0
Lengths = Exact × Moves × Near

-- ---- lengths by rows alone

-- the most bytes of a column: code byte, head and eight bytes a row; Linear's line and width; Blockwise's entries and their length
unfoldable pub most_bytes : (codec rows : ℕ) → ℕ
most_bytes zero rows = 41 + 8 * rows
most_bytes (suc zero) rows = 62 + 8 * rows
most_bytes (suc (suc c)) rows = 45 + 8 * rows + 21 * block_count rows

-- no column is longer than its code byte says
abbrev pub Bounded : Type 0
Bounded = (vs cs bytes : List ℕ) (room : ℕ) → written vs cs room ≡ value bytes → length bytes ≤ most_bytes (get_or bytes 0 0) (length vs)

-- Bitpacked is listed
abbrev pub Listed : List ℕ → Type 0
Listed cs = (j : ℕ) × (j < length cs) × (get_or cs j 0 ≡ 0)

-- where Bitpacked is listed, what was chosen is estimated at no more than Bitpacked's most bytes
abbrev pub Capped : Type 0
Capped =
    (vs cs bytes : List ℕ) (room : ℕ) → Listed cs → written vs cs room ≡ value bytes
    → (estimate : ℕ) × WroteBy (get_or bytes 0 0) vs cs room estimate bytes × (1 + estimate ≤ most_bytes 0 (length vs))

-- what to reserve for so many rows, whatever their codec will be
abbrev pub reserve : (rows : ℕ) → ℕ
reserve rows = 45 + 8 * rows + 21 * max 1 (block_count rows)

-- no column is longer
abbrev pub Reserved : Type 0
Reserved = (vs cs bytes : List ℕ) (room : ℕ) → written vs cs room ≡ value bytes → length bytes ≤ reserve (length vs)

-- and no output of that length is too short
abbrev pub Roomy : Type 0
Roomy = (vs cs also : List ℕ) (room : ℕ) → reserve (length vs) ≤ room → written vs cs room ≡ refusal 4 also → ⊥

-- where Bitpacked is listed, a column of gcd 1 takes at most Bitpacked's most bytes, and nine a block if it is Blockwise
abbrev pub Planned : Type 0
Planned =
    (vs cs bytes : List ℕ) (room : ℕ) → AllBelow (2 ^ 64) vs → (stats_of vs).gcd ≡ 1 → Listed cs → written vs cs room ≡ value bytes
    → length bytes ≤ most_bytes 0 (length vs) + 9 * block_count (length vs)
