-- What reading a row asks of its column, its block and the bytes.
-- Assumes nothing.
use Rattle.std.specs.Prelude.{ℕ, ◌+◌, ◌*◌, ◌^◌, ◌≤◌, ◌<◌, min, ◌≡◌, true, ◌⊎◌, List, length}
use Rattle.format.specs.declared.Block.{Block}
use Rattle.format.specs.declared.Codec.TheVariants.{Blockwise}
use Rattle.format.specs.declared.Column.{Column}
use Rattle.format.specs.Word.{mod_add}
use Rattle.format.specs.Packing.{legal}

-- the codec, a maximum of 64 bits, a legal width of the row's block, and a block that starts within the bytes if it has bits at all
pub record Readable (col : Column) (b : Block) (s : List ℕ) : Type 0 where
  pub codec : col.codec ≡ Blockwise
  pub bounds : col.minimum + col.count * col.gcd < 2 ^ 64
  pub lawful : legal b.bits ≡ true
  pub start : (b.bits ≡ 0) ⊎ (col.start + b.start ≤ length s)

-- the byte where a block's numbers are read from, in so many bytes: their place, or the end where that comes before it
abbrev pub numbers_start : Column → Block → (len : ℕ) → ℕ
numbers_start col b len = min (mod_add col.start b.start) len
