-- `hand_rows` meets its contract: the lines of rows are those of a chunk.
-- Assumes nothing.
use mathlib.Core.Path.{sym, subst}
use native.Mathlib.Omega.{arith}
use Rattle.text_column.specs.declared.own.Own.{Own}
use Rattle.text_column.specs.Own.{Owned}
use Rattle.text_column.proofs.Owns.{own_few, owned_at}
use Rattle.text_list.proofs.Ways.{handed_rows, took_few}
use Rattle.text_list.proofs.way.hand_rows.Goals as goal

pub fill_lines-took-requires : goal.fill_lines-took-requires
fill_lines-took-requires c = subst (λ (x : Own). Owned c.args.bytes.now x.column x.pass) (sym c.reach-at.ensures) (owned_at c.requires.stands.0.shows _)

pub overflow_add-result : goal.overflow_add-result
overflow_add-result c = omega (arith, own_few c.requires.stands.0.shows, took_few _ c.args.own _ _ c.reach-at.ensures c.fill_lines-took.ensures.0 (omega arith))

pub returns : goal.returns
returns c = handed_rows c.requires.hand_max_in_bounds c.requires.stands (omega arith) c.reach-at.ensures c.fill_lines-took.ensures.0 c.fill_lines-took.ensures.1.0 c.fill_lines-took.ensures.1.1
