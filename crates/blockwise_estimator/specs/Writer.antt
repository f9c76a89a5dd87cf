-- What the writer's functions ask and tell: of a block, of where its bytes go, and of all blocks.
-- Assumes nothing.
use Rattle.std.specs.Prelude.{ℕ, ◌+◌, ◌*◌, ◌^◌, ◌≤◌, ◌<◌, ◌≡◌, List, map, length, take, drop, get_or}
use Rattle.std.proofs.lemmas.List.Edits.{sets}
use Rattle.format.specs.Word.{bytes_for, AllBelow}
use Rattle.format.specs.Line.{trained}
use Rattle.format.specs.Bodies.{normalised, blocks, block_residuals, block_width, block_area, block_entry, joined, footer}
use Rattle.blockwise_estimator.specs.declared.Fit.{Fit}
use Rattle.blockwise_estimator.specs.declared.Fronts.{Fronts}
use Rattle.blockwise_estimator.specs.declared.Sizes.{Sizes}

-- ---- the values

-- `normalised`, by the two statistics that it looks at
abbrev pub normal : (minimum gcd : ℕ) → ℕ → ℕ
normal minimum gcd v = normalised (record { minimum = minimum; maximum = 0; gcd = gcd; rows = 0 }) v

-- all values normalised; by 0 and 1 they are themselves
abbrev pub normals : (minimum gcd : ℕ) → List ℕ → List ℕ
normals minimum gcd vs = map (normal minimum gcd) vs

-- `size` of them from `at` on
abbrev pub part_of : (minimum gcd : ℕ) → List ℕ → (at size : ℕ) → List ℕ
part_of minimum gcd vs at size = take size (drop at (normals minimum gcd vs))

-- they can be normalised: the gcd is some, and no value is below the minimum
pub record Above (minimum gcd : ℕ) (values : List ℕ) : Type 0 where
  pub some : 0 < gcd
  pub each : (k : ℕ) → k < length values → minimum ≤ get_or values k 0

-- a block of them: `size` values from `at` on, at most 512
pub record Part (minimum gcd : ℕ) (values : List ℕ) (at size : ℕ) : Type 0 where
  pub above : Above minimum gcd values
  pub inside : at + size ≤ length values
  pub few : size ≤ 512

-- ---- a block

-- what fitting a block leaves: its residuals in its values' place, its line and its width
pub record Fitted (ys rows : List ℕ) (fit : Fit) : Type 0 where
  pub line : fit.line ≡ trained ys
  pub bits : fit.bits ≡ block_width ys
  pub left : rows ≡ block_residuals ys

-- the bytes of a block in the area and in the footer are so many
pub record BlockTakes (ys : List ℕ) (sizes : Sizes) : Type 0 where
  pub packs : sizes.area ≡ length (block_area ys)
  pub fields : sizes.footer ≡ length (block_entry ys)

-- rows of at most w bits each can be packed into out from `at` on
pub record Room (w : ℕ) (rows out : List ℕ) (at : ℕ) : Type 0 where
  pub few : length rows ≤ 512
  pub most : w ≤ 64
  pub fits : AllBelow (2 ^ w) rows
  pub room : at + bytes_for (w * length rows) ≤ length out

-- an output has room for a block: the area's bytes from p on, the entry's from q on
pub record Places (ys out : List ℕ) (p q : ℕ) : Type 0 where
  pub first : p + length (block_area ys) ≤ length out
  pub second : q + length (block_entry ys) ≤ length out

-- they were written there, and nothing else changed
pub record Placed (ys old : List ℕ) (p q : ℕ) (new : List ℕ) (next : Fronts) : Type 0 where
  pub behind_area : next.area ≡ p + length (block_area ys)
  pub behind_entry : next.footer ≡ q + length (block_entry ys)
  pub list : new ≡ sets (sets old p (block_area ys)) q (block_entry ys)

-- ---- all blocks

-- the packed bytes of all blocks
abbrev pub areas : List ℕ → List ℕ
areas xs = joined block_area (blocks xs)

-- their entries
abbrev pub entries : List ℕ → List ℕ
entries xs = footer (blocks xs)

-- the bytes of all blocks in the area and in the footer are so many
pub record Takes (xs : List ℕ) (sizes : Sizes) : Type 0 where
  pub packs : sizes.area ≡ length (areas xs)
  pub fields : sizes.footer ≡ length (entries xs)

-- sizes that fewer than 2^32 values can have; the footer's has four bytes
pub record FewBytes (sizes : Sizes) : Type 0 where
  pub packs : sizes.area < 2 ^ 36
  pub fields : sizes.footer < 2 ^ 32
