-- The first byte of a field at which two columns of equal length differ.
-- Assumes nothing.
use Rattle.format.specs.declared.PartName.{PartName}
use Rattle.std.specs.Prelude.{ℕ, zero, suc, Bool, true, false, List, eqb, get_or, Option, Some, None}
use Rattle.format.specs.declared.Part.{Part}
use Rattle.format.specs.declared.Shape.{Shape}
use Rattle.format.specs.declared.Shape.TheVariants.{Varint, Byte, Four, Area, Behind, Spare}
use Rattle.format.specs.Outcome.{Outcome, Outcome.value, Outcome.refusal, pick}
use Rattle.format.specs.Parts.{shape_of}

-- whether a part is a field, by how it is spelled: any but the area, the bytes behind it and those left over in the footer
abbrev pub is_field : Shape → Bool
is_field Varint = true
is_field Byte = true
is_field Four = true
is_field Area = false
is_field Behind = false
is_field Spare = false

-- the field of a part that was found at an offset, or else another
abbrev pub field_or : Outcome Part → (i : ℕ) (later : Option (ℕ × PartName)) → Option (ℕ × PartName)
field_or (value p) i later = pick (is_field (shape_of p.name)) (Some (i, p.name)) later
field_or (refusal number also) i later = later

-- the first of n bytes from offset i on that differs and is a field's
unfoldable pub first_field : (part : ℕ → Outcome Part) (s t : List ℕ) (i n : ℕ) → Option (ℕ × PartName)
first_field part s t i zero = None
first_field part s t i (suc n) =
    pick (eqb (get_or s i 0) (get_or t i 0)) (first_field part s t (suc i) n) (field_or (part i) i (first_field part s t (suc i) n))
