-- `hulemartob::checks::hulemartob_check` meets its contract: the verdict is that on values of the number's kind, under its sheet; where the number is no kind, no sheet is named.
-- Assumes nothing.
use Rattle.std.proofs.Common.{length}
use Rattle.hulemartob.proofs.Joining.{judges}
use Rattle.hulemartob.proofs.checks.hulemartob_check.Goals as goal

pub returns : goal.returns
returns c =
    let a = c.args in
    judges a.kind a.sheet a.bytes.now a.values.now (length a.table.now) c.kind_from-known.result c.kind_from-known.ensures c.kind_of-values_kind.result c.kind_of-values_kind.ensures
    c.sheet_of-under.result c.sheet_of-under.ensures c.check_as-checked.ensures c.verdict_told.ensures
