-- `read_row::reader::decode_rows` meets its contract, by the invariant `Decoding`.
-- Assumes nothing.
use mathlib.Core.Path.{sym, ap, ◌∙◌}
use native.Mathlib.Omega.{arith}
use Rattle.format.specs.Runs.{read_run}
use borrow.Author.Rules.{rules}
use Rattle.format.proofs.Runs.{starts, stored, ends, stops}
use Rattle.read_row.proofs.reader.decode_rows.Goals as goal

pub loop-i-init : goal.loop-i-init
loop-i-init c = starts _ _ _

pub returns-in_err-value : goal.returns-in_err-value
returns-in_err-value c =
    let refused = sym (stops _ c.loop-i.invariant _ c.loop-i-test.true (sym c.in_err-value.ensures)) in
    record { answer = search rules }

pub loop-i-preserved : goal.loop-i-preserved
loop-i-preserved c = stored _ c.loop-i.invariant (omega arith) (sym c.in_ok-value.ensures)

pub returns : goal.returns
returns c = record { answer = sym (ends _ c.loop-i.invariant (omega arith)) ∙ ap (read_run _ _) c.loop-i.auto.out }
