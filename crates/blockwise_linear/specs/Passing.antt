-- A pass over the blocks in the footer, block by block.
-- Assumes nothing.
use Rattle.std.specs.Prelude.{ℕ, zero, suc, ◌+◌, ◌≤◌, ◌≡◌, List}
use Rattle.format.specs.declared.Block.{Block}
use Rattle.format.specs.Bodies.{block_count}
use Rattle.format.specs.Outcome.{Outcome, Outcome.value, Outcome.refusal}
use Rattle.blockwise_linear.specs.declared.passing.Pass.{Pass}
use Rattle.blockwise_linear.specs.declared.reader.Step.{Step}
use Rattle.blockwise_linear.specs.Reader.{step_in, first_cursor}

-- the block at hand before the first
abbrev pub no_block : Block
no_block = record { line = record { slope = 0; intercept = 0 }; bits = 0; start = 0 }

-- a pass, and the block found behind it
abbrev pub onward : Pass → Outcome Step → Pass
onward p (value t) = record { count = p.count + 1; block = t.block; next = t.next }
onward p (refusal number also) = p

-- the pass over the blocks of so many rows, k blocks on
unfoldable pub passed : (s : List ℕ) (rows k : ℕ) → Pass
passed s rows zero = record { count = 0; block = no_block; next = first_cursor s rows }
passed s rows (suc k) = onward (passed s rows k) (step_in s (passed s rows k).next)

-- a pass over the blocks of so many rows, wherever it stands
pub record Passing (s : List ℕ) (rows : ℕ) (p : Pass) : Type 0 where
  pub stands : p ≡ passed s rows p.count
  pub inside : p.count ≤ block_count rows
