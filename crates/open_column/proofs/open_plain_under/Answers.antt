-- `open_column::open_plain_under` meets its contract: opening, under the sheet.
-- Assumes nothing.
use Rattle.std.proofs.Common.{ap, ◌∙◌}
use Rattle.format.specs.Opening.{opened}
use Rattle.open_sheet.specs.Faults.{under_as}
use Rattle.open_sheet.proofs.SheetNumbers.{under_columns}
use Rattle.open_column.proofs.Opens.{opened-within}
use Rattle.open_column.proofs.open_plain_under.Goals as goal

pub under-requires : goal.under-requires
under-requires c = opened-within c.args.bytes.now c.args.room _ c.open_plain-answer.ensures

pub returns : goal.returns
returns c =
    c.under.ensures ∙ ap (under_as c.args.sheet c.args.bytes.now) c.open_plain-answer.ensures
    ∙ under_columns c.args.sheet c.args.bytes.now (opened c.args.bytes.now c.args.room)
