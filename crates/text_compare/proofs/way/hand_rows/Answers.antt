-- `hand_rows` meets its contract: the lines of rows are those of a chunk.
-- Assumes nothing.
use Prim.Native.Nat.{◌+◌, ◌^◌, ◌<◌}
use mathlib.Core.Path.{sym, subst}
use native.Mathlib.Omega.{arith}
use Rattle.text_column.specs.declared.own.Own.{Own}
use Rattle.text_column.specs.Own.{Owned}
use Rattle.text_column.proofs.Owns.{owned_at}
use Rattle.text_compare.specs.Way.{rows_of}
use Rattle.text_compare.proofs.Ways.{handed_rows, paired_few}
use Rattle.text_compare.proofs.way.hand_rows.Goals as goal

pub fill_lines-took-requires : goal.fill_lines-took-requires
fill_lines-took-requires c = record { owned = subst (λ (x : Own). Owned c.args.left.now x.column x.pass) (sym c.reach-own.ensures) (owned_at c.requires.stands.0.shows _); owned_2 = subst (λ (x : Own). Owned c.args.right.now x.column x.pass) (sym c.reach-its.ensures) (owned_at c.requires.stands.1.shows _) }

pub overflow_add-result : goal.overflow_add-result
overflow_add-result c =
    omega (
      arith,
      (let few-here : let a = c.args.at in
          (a.from.0 + c.fill_lines-took.result.rows < 2 ^ 32) × (a.lines + c.fill_lines-took.result.lines < 2 ^ 32) = paired_few _ _ c.args.at _ c.requires.hand_max_in_bounds c.requires.stands ((let more-here : let a = c.args.at in a.from.0 < rows_of a = omega (arith, c.if-row_count-from, c.row_count.ensures) in more-here)) c.reach-own.ensures c.reach-its.ensures c.fill_lines-took.ensures.0 in few-here),
    )

pub overflow_add-result-2 : goal.overflow_add-result-2
overflow_add-result-2 c =
    omega (
      arith,
      (let few-here : let a = c.args.at in
          (a.from.0 + c.fill_lines-took.result.rows < 2 ^ 32) × (a.lines + c.fill_lines-took.result.lines < 2 ^ 32) = paired_few _ _ c.args.at _ c.requires.hand_max_in_bounds c.requires.stands ((let more-here : let a = c.args.at in a.from.0 < rows_of a = omega (arith, c.if-row_count-from, c.row_count.ensures) in more-here)) c.reach-own.ensures c.reach-its.ensures c.fill_lines-took.ensures.0 in few-here),
    )

pub returns : goal.returns
returns c = handed_rows c.requires.hand_max_in_bounds c.requires.stands ((let more-here : let a = c.args.at in a.from.0 < rows_of a = omega (arith, c.if-row_count-from, c.row_count.ensures) in more-here)) c.reach-own.ensures c.reach-its.ensures c.fill_lines-took.ensures.0 c.fill_lines-took.ensures.1.0 c.fill_lines-took.ensures.1.1
