-- `read_bounds::is_whole` meets its contract.
-- Assumes nothing.
use Rattle.format.specs.Refusals.{answered_by}
use Prim.Native.Nat.{◌^◌, ◌<◌}
use mathlib.Core.Bool.{true}
use native.Mathlib.Omega.{arith}
use Rattle.format.proofs.Outcomes.{told}
use Rattle.read_row.proofs.Fitting.{fitting}
use Rattle.read_row.proofs.Counted.{same_there, chunk_there, fitting_there}
use Rattle.read_bounds.proofs.Sures.{never, sure_stands, told-fits, looked}
use borrow.Author.Rules.{rules}
use Rattle.read_bounds.proofs.is_whole.Goals as goal

pub is_sure-requires : goal.is_sure-requires
is_sure-requires c =
    let few : c.args.column.rows < 2 ^ 32 = search rules in
    let fit = told-fits c.args.column c.args.blocks c.args.block c.args.bytes.now _ _ (told answered_by c.row_in.ensures c.in-Ok.is) in
    let there = chunk_there _ few _ _ _ _ _ c.requires fit _ c.column_row-at.ensures in
    ((fitting _ _ _ _ _ fit).bounds, c.requires.some, omega (arith, there.inside), omega (arith, there.one))

pub returns-then-is_sure : goal.returns-then-is_sure
returns-then-is_sure c = λ e.
    let few : c.args.column.rows < 2 ^ 32 = search rules in
    let fit = told-fits c.args.column c.args.blocks c.args.block c.args.bytes.now _ _ (told answered_by c.row_in.ensures c.in-Ok.is) in
    looked c.args.column c.args.blocks c.args.block c.args.bytes.now c.args.first c.args.size _ c.requires (told answered_by c.row_in.ensures c.in-Ok.is)
    (sure_stands _ (rw (same_there _ few _ _ _ _ _ c.requires fit _ c.column_row-at.ensures) at (c.is_sure.ensures c.if-is_sure.true)))

pub is_within-requires : goal.is_within-requires
is_within-requires c =
    let few : c.args.column.rows < 2 ^ 32 = search rules in
    let fit = told-fits c.args.column c.args.blocks c.args.block c.args.bytes.now _ _ (told answered_by c.row_in.ensures c.in-Ok.is) in
    record {
      chunk = chunk_there _ few _ _ _ _ _ c.requires fit _ c.column_row-at.ensures;
      fitting = fitting_there _ few _ _ _ _ _ c.requires fit _ c.column_row-at.ensures;
    }

pub returns-else-is_sure : goal.returns-else-is_sure
returns-else-is_sure c = λ e.
    let few : c.args.column.rows < 2 ^ 32 = search rules in
    let fit = told-fits c.args.column c.args.blocks c.args.block c.args.bytes.now _ _ (told answered_by c.row_in.ensures c.in-Ok.is) in
    looked c.args.column c.args.blocks c.args.block c.args.bytes.now c.args.first c.args.size _ c.requires (told answered_by c.row_in.ensures c.in-Ok.is)
    (rw (same_there _ few _ _ _ _ _ c.requires fit _ c.column_row-at.ensures) at (c.is_within.ensures e))

pub returns-in-Err : goal.returns-in-Err
returns-in-Err c = λ e. never e
