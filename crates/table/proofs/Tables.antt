-- A row by its block.
--     by_block      it answers by the block of its number what it answers by the table
-- Assumes nothing.
use mathlib.Core.Path.{◌≡◌}
use Prim.Native.Nat.{ℕ, ◌/◌, ◌%◌, ◌^◌, ◌<◌}
use mathlib.Core.List.{List}
use lib.ListN.{length}
use Rattle.format.specs.declared.Block.{Block}
use Rattle.format.specs.declared.Column.{Column}
use Rattle.format.specs.Reading.{column_row, block_at, row_in, row_at}
use Rattle.read_row.proofs.Moving.{any_block}

pub by_block : (col : Column) → col.rows < 2 ^ 32 → (t : List Block) (s : List ℕ) (r : ℕ) {k : ℕ} {b : Block} → k ≡ column_row col r % 2 ^ 32 / 512 → b ≡ block_at t k
    → row_in col (length t) b s r ≡ row_at col t s r
by_block col few t s r {k} {b} number block = rw (block, number) (any_block col few r t s)
