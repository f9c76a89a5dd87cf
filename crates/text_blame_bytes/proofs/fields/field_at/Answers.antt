-- `field_at` meets its contract: the first of one byte.
-- Assumes nothing.
use mathlib.Core.Path.{sym, ◌∙◌}
use Rattle.text_blame_bytes.specs.Fields.{first_field}
use Rattle.text_blame_bytes.proofs.fields.field_at.Goals as goal

pub returns-then-same_at : goal.returns-then-same_at
unfolding first_field
returns-then-same_at c = rw (sym c.same_at.ensures ∙ c.if-same_at.true)

pub returns : goal.returns
unfolding first_field
returns c = rw (sym c.same_at.ensures ∙ c.if-same_at.false, ← c.part_at.ensures) c.field_in.ensures
