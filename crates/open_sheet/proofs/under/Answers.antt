-- `open_sheet::under` meets its contract: the sheet's number decides first, then the answer, then sheet 2. That there are no other sheets, the lemma
-- that the attribute names says, so that the edit `sheet_three` falls by what is left, which has to be sheet 2.
-- Assumes nothing.
use Rattle.format.specs.Refusals.{answered_by}
use Rattle.std.proofs.Common.{◌≡◌, ap, arith}
use Rattle.open_sheet.proofs.SheetNumbers.{under_one, under_refused, under_strict}
use Rattle.open_sheet.proofs.under.Goals as goal

pub returns-then-sheet-eq1 : goal.returns-then-sheet-eq1
returns-then-sheet-eq1 c = under_one c.args.sheet c.args.bytes.now (answered_by c.args.answer) c.if-sheet-eq1.true

pub returns-in_default : goal.returns-in_default
returns-in_default c =
    let two : c.args.sheet ≡ 2 = omega arith in
    under_refused c.args.sheet c.args.bytes.now two (ap answered_by c.in_default.is)

pub returns : goal.returns
returns c =
    let two : c.args.sheet ≡ 2 = omega arith in
    under_strict c.args.sheet c.args.bytes.now _ _ two (ap answered_by c.in-Ok.is) c.strict.ensures
