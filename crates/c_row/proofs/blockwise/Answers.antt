-- `c_row::blockwise` meets its contract: the row's place, its number in its block and the line's multiple, each with its tests, are those of the definition.
-- Assumes nothing.
use Rattle.std.proofs.Common.{ℕ, ap, ◌∙◌, arith}
use mathlib.Core.Path.{subst}
use Rattle.format.specs.Word.{mod_add}
use Rattle.c_row.specs.Short.{Raised}
use borrow.Author.Tests.{not-false}
use Rattle.c_row.proofs.Rows.{place_below, blockwise_row}
use Rattle.c_row.proofs.blockwise.Goals as goal

pub returns : goal.returns
returns c e =
    let a = c.args in
    let shown = c.place_of-at.ensures (not-false _ c.if-not-at.false) in
    blockwise_row _ _ shown a.blocks a.block c.requires
    (omega (arith, c.if-blocks-add.false, c.add.ensures, place_below shown, shown.place))
    c.if-bits-gt56.false (c.number_at-packed.ensures (not-false _ c.if-not-packed.false))
    (subst (λ (m : ℕ). Raised a.numbers.now m c.raised.result.value) (c.add-2.ensures ∙ ap (λ (x : ℕ). mod_add x c.number_at-packed.result.value) c.eval.ensures) (c.raised.ensures e))
