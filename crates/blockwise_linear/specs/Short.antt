-- What the answers of the short way mean, where they are there.
-- Assumes nothing.
use Rattle.std.specs.Prelude.{ℕ, ◌-◌, None}
use Rattle.format.specs.declared.Field.{Field}
use Rattle.format.specs.declared.Fields.{Fields}
use Rattle.blockwise_linear.specs.declared.reader.Cursor.{Cursor}
use Rattle.blockwise_linear.specs.declared.reader.Step.{Step}
use Rattle.blockwise_linear.specs.declared.short.Entry.{Entry}
use Rattle.blockwise_linear.specs.declared.short.Number.{Number}
use Rattle.blockwise_linear.specs.declared.short.Passed.{Passed}

-- a number at an offset
abbrev pub short_field : (at : ℕ) → Number → Field
short_field at n = record { value = n.value; next = n.next; used = n.next - at; longer = None }

-- a line and a width
abbrev pub short_fields : Entry → Fields
short_fields e = record { line = record { slope = e.slope; intercept = e.intercept }; bits = e.bits; next = e.next; longer = None }

-- the block at a place, and the place behind it
abbrev pub short_step : Cursor → Passed → Step
short_step c p =
    record {
      block = record { line = record { slope = p.slope; intercept = p.intercept }; bits = p.bits; start = c.start };
      next = record { at = p.at; start = p.start; left = p.left };
      longer = None;
    }
