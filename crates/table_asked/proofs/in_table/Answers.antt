-- `in_table` meets its contract: the search as it was, or no further than the table's end.
-- Assumes nothing.
use Prim.Native.Nat.{max}
use mathlib.Core.Path.{◌≡◌}
use native.Mathlib.Omega.{arith}
use Rattle.table_asked.proofs.Cut.{search_cut}
use Rattle.table_asked.proofs.in_table.Goals as goal
use Rattle.table_asked.proofs.in_table.Goals.{else-next-blocks, then-next-blocks}

pub overflow_add-next : goal.overflow_add-next
overflow_add-next c = omega (arith, c.requires.inside)

pub returns : goal.returns
returns c =
    let end_is : c.if-next-blocks.end ≡ max c.args.search.next c.args.blocks = elim c.if-next-blocks.branch [ then-next-blocks w ↦ omega arith | else-next-blocks w ↦ omega arith ] in
    rw end_is (search_cut c.requires c.args.blocks c.if-next-search.false)
