use mathlib.Core.Path.{◌≡◌}
use Rattle.format.specs.Listing.{opened_here}
use Rattle.byte_owner.specs.Bytes.{rows_of}
use Rattle.byte_owner.specs.Search.{searched, Searching}
use Rattle.text_column.specs.Own.{table_of}
use Rattle.text_blame_bytes.specs.Owners.{Stays}
use Rattle.text_blame_bytes.proofs.owners.rows_at.Given as goal

abbrev pub invariant-loop-search : goal.invariant-loop-search
invariant-loop-search l =
    Stays l.bytes l.initial.at l.at × Searching l.initial.at.column.rows l.search
    × (searched (table_of (opened_here l.bytes)) l.initial.at.column.rows l.search ≡ rows_of l.bytes l.initial.at.column (table_of (opened_here l.bytes)) l.offset)

abbrev pub decreases-loop-search : goal.decreases-loop-search
decreases-loop-search l = l.search.left
