-- What reading a row of a Bitpacked column asks for.
-- Assumes nothing.
use Rattle.std.specs.Prelude.{◌+◌, ◌*◌, ◌^◌, ◌≤◌, ◌<◌, ℕ, ◌≡◌, List, length}
use Rattle.format.specs.declared.Codec.TheVariants.{Bitpacked}
use Rattle.format.specs.declared.Column.{Column}

-- the codec, a maximum of 64 bits, and an area that starts within the bytes
pub record Readable (col : Column) (s : List ℕ) : Type 0 where
  pub codec : col.codec ≡ Bitpacked
  pub bounds : col.minimum + col.count * col.gcd < 2 ^ 64
  pub start : col.start ≤ length s
