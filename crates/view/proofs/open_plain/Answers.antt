-- `view::open_plain` meets its contract: opening with no room for a block, for a view, under the sheet.
-- Assumes nothing.
use Rattle.format.specs.Refusals.{answered_by}
use mathlib.Core.Path.{◌≡◌, sym, ap, ◌∙◌}
use Rattle.format.specs.Opening.{column_in}
use Rattle.format.specs.Viewing.{viewed}
use Rattle.open_sheet.specs.Faults.{under_as}
use Rattle.open_sheet.proofs.SheetNumbers.{under_columns}
use Rattle.view.specs.Held.{for_view}
use Rattle.view.proofs.Views.{viewed_columns, viewed-within}
use Rattle.view.proofs.open_plain.Goals as goal

pub under-requires : goal.under-requires
under-requires c =
    let told : answered_by c.for_view-answer.result ≡ column_in (viewed c.args.bytes.now) =
    c.for_view-answer.ensures ∙ ap for_view c.open_plain.ensures ∙ sym (viewed_columns c.args.bytes.now) in
    viewed-within _ _ told

pub returns : goal.returns
returns c =
    let told : answered_by c.for_view-answer.result ≡ column_in (viewed c.args.bytes.now) =
    c.for_view-answer.ensures ∙ ap for_view c.open_plain.ensures ∙ sym (viewed_columns c.args.bytes.now) in
    c.under.ensures ∙ ap (under_as c.args.sheet c.args.bytes.now) told ∙ under_columns c.args.sheet c.args.bytes.now (viewed c.args.bytes.now)
