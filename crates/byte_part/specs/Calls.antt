-- What each call promises of its answer. Nothing is lent that a call may change.
-- Assumes nothing.
use Rattle.format.specs.declared.Refusal.{Refusal}
use Rattle.format.specs.declared.Part.{Part}
use Rattle.format.specs.Refusals.{answered_by}
use Rattle.std.specs.Prelude.{ℕ, ◌≡◌, Bool, List, Option, Result}
use Rattle.format.specs.declared.Column.{Column}
use Rattle.byte_part.specs.declared.Cursor.{Cursor}
use Rattle.byte_part.specs.Bytes.{fits_at, part_of}
use Rattle.byte_part.specs.Walk.{walked}

-- `next_part`
abbrev pub WalkedAs : Column → (s : List ℕ) → Cursor → Option (Part × Cursor) → Type 0
WalkedAs column s place r = r ≡ walked s column place

-- `fits_at`
abbrev pub FitsAs : Column → (s : List ℕ) (offset : ℕ) → Bool → Type 0
FitsAs column s offset r = r ≡ fits_at s column offset

-- `part_at`
abbrev pub PartAs : Column → (s : List ℕ) (offset : ℕ) → Result Part Refusal → Type 0
PartAs column s offset r = answered_by r ≡ part_of s column offset
