-- `c_row::linear` meets its contract: the row's place, its number and the line, each with its tests, are those of the definition.
-- Assumes nothing.
use Rattle.std.proofs.Common.{ℕ, ap, ◌∙◌}
use Rattle.format.specs.Word.{mod_add}
use borrow.Author.Tests.{not-false}
use Rattle.c_row.proofs.Rows.{linear_row}
use Rattle.c_row.proofs.linear.Goals as goal

pub returns : goal.returns
returns c e =
    linear_row _ _ (c.place_of-at.ensures (not-false _ c.if-not-at.false)) c.requires c.if-bits-gt56.false (c.number_at-packed.ensures (not-false _ c.if-not-packed.false)) (c.maximum_of-maximum.ensures (not-false _ c.if-not-maximum.false))
    (c.add-value.ensures ∙ ap (λ (x : ℕ). mod_add x c.number_at-packed.result.value) c.eval.ensures) c.if-value-numbers.false c.if-maximum-value.false
