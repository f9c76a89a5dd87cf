-- `linear::reader::get_val` meets its contract: the part from the area's start on holds the row's number, and the tests are those of the bounds.
-- Assumes nothing.
use Prim.Native.Nat.{◌+◌, ◌*◌}
use mathlib.Core.Path.{◌≡◌}
use mathlib.Core.Bool.{true, false, ◌&&◌}
use lib.Dec.{leb}
use borrow.Author.Tests.{le-leb, lt-leb}
use Rattle.linear.proofs.Rows.{value_is}
use Rattle.linear.proofs.reader.get_val.Goals as goal

pub returns-then-value-column : goal.returns-then-value-column
returns-then-value-column c block =
    let test : (leb c.args.column.minimum c.add-value.result && leb c.add-value.result (c.args.column.minimum + c.args.column.gcd * c.args.column.count)) ≡ false = rw (lt-leb _ _ c.if-value-column.true) in
    value_is c.args.column block c.args.bytes.now c.args.line c.args.bits c.args.row.0 c.requires.codec c.get-number.ensures c.eval.ensures c.add-value.ensures test

pub returns-then-column-value : goal.returns-then-column-value
returns-then-column-value c block =
    let test : (leb c.args.column.minimum c.add-value.result && leb c.add-value.result (c.args.column.minimum + c.args.column.gcd * c.args.column.count)) ≡ false = rw (le-leb _ _ c.if-value-column.false, lt-leb _ _ c.if-column-value.true) in
    value_is c.args.column block c.args.bytes.now c.args.line c.args.bits c.args.row.0 c.requires.codec c.get-number.ensures c.eval.ensures c.add-value.ensures test

pub returns : goal.returns
returns c block =
    let test : (leb c.args.column.minimum c.add-value.result && leb c.add-value.result (c.args.column.minimum + c.args.column.gcd * c.args.column.count)) ≡ true = rw (le-leb _ _ c.if-value-column.false, le-leb _ _ c.if-column-value.false) in
    value_is c.args.column block c.args.bytes.now c.args.line c.args.bits c.args.row.0 c.requires.codec c.get-number.ensures c.eval.ensures c.add-value.ensures test
