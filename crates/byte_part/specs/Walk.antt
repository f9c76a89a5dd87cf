-- The parts one after another: the name of each by its number, its bytes and number, and the step to the next.
-- Assumes nothing.
use Rattle.std.specs.Prelude.{ℕ, zero, suc, ◌+◌, ◌≡◌, List, [], ◌∷◌, ◌++◌, Option, Some, None}
use Rattle.format.specs.declared.Column.{Column}
use Rattle.format.specs.declared.PartName.{PartName}
use Rattle.format.specs.declared.PartName.TheVariants.{Area, Behind, Slope, Intercept, Width, Spare, FooterLength}
use Rattle.format.specs.declared.Shape.{Shape}
use Rattle.format.specs.declared.Part.{Part}
use Rattle.format.specs.declared.Codec.{Codec}
use Rattle.format.specs.declared.Codec.TheVariants.{Bitpacked, Linear, Blockwise}
use Rattle.format.specs.Bodies.{block_count}
use Rattle.format.specs.Varint.{read_varint}
use Rattle.format.specs.Parts.{names, block_names, spelled_in, number_in, extent, spelled, part_here, part_end}
use Rattle.byte_part.specs.declared.Cursor.{Cursor}
use Rattle.byte_part.specs.declared.measuring.Measured.{Measured}

-- a name by its place in a list of names
abbrev pub nth : List PartName → (p : ℕ) → Option PartName
nth [] p = None
nth (n ∷ ns) zero = Some n
nth (n ∷ ns) (suc p) = nth ns p

-- the names behind the head's
abbrev pub names_behind : Codec → (rows : ℕ) → List PartName
names_behind Bitpacked rows = Area ∷ Behind ∷ []
names_behind (Linear l w) rows = Slope ∷ Intercept ∷ Width ∷ Area ∷ Behind ∷ []
names_behind Blockwise rows = Area ∷ Behind ∷ (block_names 0 (block_count rows) ++ (Spare ∷ FooterLength ∷ []))

-- a part's bytes and number
pub record Measures (s : List ℕ) (col : Column) (shape : Shape) (at : ℕ) (m : Measured) : Type 0 where
  pub bytes : m.bytes ≡ extent s col shape at
  pub value : m.value ≡ spelled s shape at

-- those of a varint
pub record Spells (s : List ℕ) (at : ℕ) (m : Measured) : Type 0 where
  pub bytes : m.bytes ≡ spelled_in (read_varint s at)
  pub value : m.value ≡ number_in (read_varint s at)

-- the part of a name at a place, and the place behind it; no name: no part is left
abbrev pub step_to : (s : List ℕ) → Column → Cursor → Option PartName → Option (Part × Cursor)
step_to s col c None = None
step_to s col c (Some n) = Some (part_here s col n c.at, record { number = c.number + 1; at = part_end (part_here s col n c.at) })

-- the next part at a place
abbrev pub walked : (s : List ℕ) → Column → Cursor → Option (Part × Cursor)
walked s col c = step_to s col c (nth (names col.codec col.rows) c.number)
