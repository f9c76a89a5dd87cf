-- `byte_part::seek` meets its contract, by what the loop keeps: what is left of the parts holds the offset, if any part does.
-- Assumes nothing.
use Rattle.std.proofs.Common.{sym}
use Rattle.byte_part.proofs.Seeking.{walked_part, seeking_found, seeking_more, seeking_ends, less_left}
use Rattle.byte_part.proofs.seek.Goals as goal

pub returns : goal.returns
returns c = sym (seeking_ends c.args.bytes.now c.args.column c.args.offset c.loop-part.place (sym c.in_default.ensures) c.loop-part.invariant)

pub returns-then-offset-next : goal.returns-then-offset-next
returns-then-offset-next c =
    let found = walked_part c.args.bytes.now c.args.column c.loop-part.place c.in-Some.part c.in-Some.next (sym c.in-Some.ensures) in
    sym (seeking_found c.args.bytes.now c.args.column c.args.offset c.loop-part.place _ _ found c.loop-part.invariant c.if-offset-next.true)

pub loop-part-smaller : goal.loop-part-smaller
loop-part-smaller c =
    let found = walked_part c.args.bytes.now c.args.column c.loop-part.place c.in-Some.part c.in-Some.next (sym c.in-Some.ensures) in
    less_left c.args.bytes.now c.args.column c.loop-part.place _ _ found

pub loop-part-preserved : goal.loop-part-preserved
loop-part-preserved c =
    let found = walked_part c.args.bytes.now c.args.column c.loop-part.place c.in-Some.part c.in-Some.next (sym c.in-Some.ensures) in
    seeking_more c.args.bytes.now c.args.column c.args.offset c.loop-part.place _ _ found c.loop-part.invariant c.if-offset-next.false
