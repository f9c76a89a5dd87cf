-- `c_numbers::column_from` meets its contract: the counts are tested first, and each arm is a case of the codec's definition.
-- Assumes nothing.
use Rattle.std.proofs.Common.{sym, ◌∙◌, arith}
use Rattle.c_numbers.proofs.Columns.{no_counts, column_is, no_codec, bitpacked_is, linear_is, too_wide, blockwise_is, unknown}
use Rattle.c_numbers.proofs.column_from.Goals as goal

pub returns-then-not-counts_fit : goal.returns-then-not-counts_fit
returns-then-not-counts_fit c = no_counts _ (sym c.counts_fit.ensures ∙ c.if-not-counts_fit.true)

pub returns-then-bits-gt255 : goal.returns-then-bits-gt255
returns-then-bits-gt255 c = no_codec _ (sym c.counts_fit.ensures ∙ c.if-not-counts_fit.false) (too_wide _ _ _ _ c.in-1.is c.if-bits-gt255.true)

pub returns-in-0 : goal.returns-in-0
returns-in-0 c = column_is _ _ (sym c.counts_fit.ensures ∙ c.if-not-counts_fit.false) (bitpacked_is _ _ _ _ c.in-0.is) c.column_with.ensures

pub returns-else-bits-gt255 : goal.returns-else-bits-gt255
returns-else-bits-gt255 c =
    column_is _ _ (sym c.counts_fit.ensures ∙ c.if-not-counts_fit.false) (linear_is _ _ _ _ c.in-1.is c.if-bits-gt255.false) c.column_with-in-1.ensures

pub returns-in-2 : goal.returns-in-2
returns-in-2 c = column_is _ _ (sym c.counts_fit.ensures ∙ c.if-not-counts_fit.false) (blockwise_is _ _ _ _ c.in-2.is) c.column_with-in-2.ensures

pub returns-in_default : goal.returns-in_default
returns-in_default c =
    no_codec _ (sym c.counts_fit.ensures ∙ c.if-not-counts_fit.false) (unknown _ _ _ _ (λ e. absurd (omega arith)) (λ e. absurd (omega arith)) (λ e. absurd (omega arith)))
