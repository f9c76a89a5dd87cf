-- `hulemartob::hulemartob_run` meets its contract: the column is made of its numbers, the table decodes its values, and one call tells the answer. A column of no rows has none.
-- Assumes nothing.
use Rattle.std.proofs.Common.{length}
use Rattle.format.specs.declared.Column.{Column}
use Rattle.format.specs.Reading.{row_at}
use Rattle.format.specs.Runs.{decoded}
use Rattle.hulemartob.proofs.Joining.{lists, run_still}
use Rattle.hulemartob.proofs.hulemartob_run.Goals as goal

pub returns : goal.returns
returns c =
    let a = c.args in
    lists (λ (col : Column). decoded (row_at col a.table.now a.bytes.now) col.window.rows a.first (length a.out.now)) a.column.now c.column_from-made.result c.column_from-made.ensures
    (run_still _ a.first (length a.out.now)) c.column_of-opened.ensures c.run-answer.ensures c.entries_told.ensures
