-- `hulemartob::hulemartob_lookup` meets its contract: the column is made of its numbers, the table looks its rows up, and one call tells the answer. Of a column of no rows none are found.
-- Assumes nothing.
use Rattle.std.proofs.Common.{length}
use Rattle.format.specs.declared.Column.{Column}
use Rattle.format.specs.Lookup.{looked_up, within}
use Rattle.format.specs.Reading.{row_at}
use Rattle.hulemartob.proofs.Joining.{lists, lookup_still}
use Rattle.hulemartob.proofs.hulemartob_lookup.Goals as goal

pub returns : goal.returns
returns c =
    let a = c.args in
    lists (λ (col : Column). looked_up (row_at col a.table.now a.bytes.now) col.window.rows (within a.low a.high) a.first a.end (length a.found.now)) a.column.now c.column_from-made.result c.column_from-made.ensures
    (lookup_still _ (within a.low a.high) a.first a.end (length a.found.now)) c.column_of-opened.ensures c.lookup-answer.ensures c.entries_told.ensures
