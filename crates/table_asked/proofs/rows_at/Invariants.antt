-- The search is under way: it comes to the rows of the byte.
use Rattle.std.proofs.Common.{◌≡◌}
use Rattle.byte_owner.specs.Bytes.{rows_of}
use Rattle.byte_owner.specs.Search.{searched, Searching}
use Rattle.table_asked.proofs.rows_at.Given as goal

abbrev pub invariant-loop-search : goal.invariant-loop-search
invariant-loop-search l = Searching l.column.rows l.search × (searched l.table l.column.rows l.search ≡ rows_of l.bytes l.column l.table l.offset)

abbrev pub decreases-loop-search : goal.decreases-loop-search
decreases-loop-search l = l.search.left
