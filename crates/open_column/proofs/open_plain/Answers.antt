-- `open_column::open_plain` meets its contract: the code byte, the head and the body decide in the rule's order. That no greater code byte is a
-- column's, the lemma that the attribute names says, so that the edit `three_codecs` falls by what is left, which has to be one of the three.
-- Assumes nothing.
use Rattle.std.proofs.Common.{◌≡◌, arith, rules}
use Rattle.format.specs.Opening.{opened, column_in}
use Rattle.format.specs.Refusals.{numbered}
use Rattle.open_column.proofs.Opens.{opened-known}
use Rattle.open_column.proofs.open_plain.Goals as goal

pub returns-in_err-head : goal.returns-in_err-head
returns-in_err-head c =
    let refused : numbered c.in_err-head.field-0.0 ≡ column_in (opened c.args.bytes.now c.args.room) =
    rw (opened-known c.args.bytes.now c.args.room (omega arith) (omega arith), ← c.in_err-head.ensures) in
    search rules

pub returns : goal.returns
returns c = rw (opened-known c.args.bytes.now c.args.room (omega arith) (omega arith), ← c.in_ok-head.ensures) c.load.ensures
