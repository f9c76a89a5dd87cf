-- The names of parts as numbers.
-- Assumes nothing.
use Rattle.std.specs.Prelude.{ℕ}
use Rattle.format.specs.declared.PartName.{PartName}
use Rattle.format.specs.declared.PartName.TheVariants.{Code, Minimum, Gcd, Count, Rows, Slope, Intercept, Width, Area, Behind, BlockSlope, BlockIntercept, BlockWidth, Spare, FooterLength}

-- which part a name is, in the order of its enum
abbrev pub which_part : PartName → ℕ
which_part Code = 0
which_part Minimum = 1
which_part Gcd = 2
which_part Count = 3
which_part Rows = 4
which_part Slope = 5
which_part Intercept = 6
which_part Width = 7
which_part Area = 8
which_part Behind = 9
which_part (BlockSlope k) = 10
which_part (BlockIntercept k) = 11
which_part (BlockWidth k) = 12
which_part Spare = 13
which_part FooterLength = 14

-- the number of its block, 0 where it is no block's
abbrev pub block_of : PartName → ℕ
block_of Code = 0
block_of Minimum = 0
block_of Gcd = 0
block_of Count = 0
block_of Rows = 0
block_of Slope = 0
block_of Intercept = 0
block_of Width = 0
block_of Area = 0
block_of Behind = 0
block_of (BlockSlope k) = k
block_of (BlockIntercept k) = k
block_of (BlockWidth k) = k
block_of Spare = 0
block_of FooterLength = 0
