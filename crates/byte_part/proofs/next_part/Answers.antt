-- `byte_part::next_part` meets its contract: there are few enough names to count, and a name with the place behind its part is a step.
-- Assumes nothing.
use Rattle.std.proofs.Common.{◌^◌, ◌<◌, sym, arith}
use Rattle.format.specs.Parts.{names}
use Rattle.byte_part.proofs.Names.{nth_some, names_few}
use Rattle.byte_part.proofs.Seeking.{walked_is}
use Rattle.byte_part.proofs.next_part.Goals as goal

pub overflow_add-next : goal.overflow_add-next
overflow_add-next c =
    let all = names c.args.column.codec c.args.column.rows in
    let few : c.args.column.rows < 2 ^ 32 = omega arith in
    omega (arith, names_few c.args.column.codec c.args.column.rows few, (nth_some all c.args.place.number _ (sym c.in_ok-name.ensures)).0)

pub returns : goal.returns
returns c = walked_is c.args.bytes.now c.args.column c.args.place _ _ (sym c.in_ok-name.ensures) c.part_here-part.ensures
