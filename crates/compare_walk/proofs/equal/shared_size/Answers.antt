-- `compare_walk::equal::shared_size` meets its contract: the lesser of two chunks, or none.
-- Assumes nothing.
use native.Mathlib.Omega.{arith}
use Rattle.compare_walk.proofs.Equals.{shared_none, shared_left_lesser, shared_right_lesser}
use borrow.Author.Rules.{rules}
use Rattle.compare_walk.proofs.equal.shared_size.Goals as goal

pub returns-then-rows-first : goal.returns-then-rows-first
returns-then-rows-first c = record { value = shared_none c.args.left c.args.right c.args.first _ c.cut-rows.ensures c.if-rows-first.true; result_bound = search rules }

pub returns-then-n-m : goal.returns-then-n-m
returns-then-n-m c = record { value = shared_left_lesser c.args.left c.args.right c.args.first c.cut-rows.ensures c.column_row.ensures c.column_row-2.ensures c.chunk_size-n.ensures c.chunk_size-m.ensures c.if-n-m.true; result_bound = omega (arith, c.chunk_size-n.ensures) }

pub returns-else-n-m : goal.returns-else-n-m
returns-else-n-m c = record { value = shared_right_lesser c.args.left c.args.right c.args.first c.cut-rows.ensures c.column_row.ensures c.column_row-2.ensures c.chunk_size-n.ensures c.chunk_size-m.ensures c.if-n-m.false; result_bound = omega (arith, c.chunk_size-m.ensures) }
