-- `byte_owner::run_owners` meets its contract: its tests are the definition's; a row of the run is below its rows.
-- Assumes nothing.
use Rattle.std.specs.Prelude.{Some}
use Rattle.std.proofs.Common.{ℕ, ◌+◌, ◌-◌, ◌*◌, ◌/◌, ◌≤◌, sym, ap, ◌∙◌, arith}
use Rattle.byte_owner.proofs.Runs.{run_illegal, run_early, run_late, run_here}
use Rattle.byte_owner.proofs.run_owners.Goals as goal

pub returns-then-not-is_legal : goal.returns-then-not-is_legal
returns-then-not-is_legal c =
    sym (run_illegal (record { start = c.args.start; bits = c.args.bits; first = c.args.first; rows = c.args.rows }) c.args.j (sym c.is_legal.ensures ∙ c.if-not-is_legal.true))

pub returns-then-j-start : goal.returns-then-j-start
returns-then-j-start c =
    sym (run_early (record { start = c.args.start; bits = c.args.bits; first = c.args.first; rows = c.args.rows }) c.args.j (sym c.is_legal.ensures ∙ c.if-not-is_legal.false) c.if-j-start.true)

pub returns-then-end-byte : goal.returns-then-end-byte
returns-then-end-byte c =
    let s = c.args in
    let end : s.rows * s.bits ≤ s.j - s.start = c.if-end-byte.true in
    sym (run_late (record { start = s.start; bits = s.bits; first = s.first; rows = s.rows }) s.j (sym c.is_legal.ensures ∙ c.if-not-is_legal.false) c.if-j-start.false (omega arith))

pub returns-then-end-bit : goal.returns-then-end-bit
returns-then-end-bit c =
    let s = c.args in
    sym (run_late (record { start = s.start; bits = s.bits; first = s.first; rows = s.rows }) s.j (sym c.is_legal.ensures ∙ c.if-not-is_legal.false) c.if-j-start.false c.if-end-bit.true)

pub returns : goal.returns
returns c =
    let s = c.args in
    ap (λ (n : ℕ). Some (s.first + 8 * (s.j - s.start) / s.bits, s.first + n)) c.lesser-last.ensures
    ∙ sym (run_here (record { start = s.start; bits = s.bits; first = s.first; rows = s.rows }) s.j (sym c.is_legal.ensures ∙ c.if-not-is_legal.false) c.if-j-start.false c.if-end-bit.false)
