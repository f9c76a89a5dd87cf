-- What reading a row of a Linear column asks for.
-- Assumes nothing.
use Rattle.std.specs.Prelude.{◌+◌, ◌*◌, ◌^◌, ◌≤◌, ◌<◌, ℕ, ◌≡◌, true, ◌&&◌, List, [], ◌∷◌, leb, length}
use Rattle.format.specs.declared.Codec.TheVariants.{Linear}
use Rattle.format.specs.declared.Column.{Column}
use Rattle.format.specs.declared.Line.{Line}
use Rattle.format.specs.Outcome.{Outcome, Outcome.value, ◌>>◌, demand}
use Rattle.format.specs.Packing.{legal}

-- the codec with its line and width, a maximum of 64 bits, a legal width, and an area that starts within the bytes
pub record Readable (col : Column) (l : Line) (w : ℕ) (s : List ℕ) : Type 0 where
  pub codec : col.codec ≡ Linear l w
  pub bounds : col.minimum + col.count * col.gcd < 2 ^ 64
  pub lawful : legal w ≡ true
  pub start : col.start ≤ length s

-- a value that a row has if it lies from low to high
abbrev pub bounded : (low high r v : ℕ) → Outcome ℕ
bounded low high r v = demand (leb low v && leb v high) 14 (r ∷ []) >> value v
