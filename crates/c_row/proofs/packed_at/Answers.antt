-- `c_row::packed_at` meets its contract: the width is the count's bit length, or 64.
-- Assumes nothing.
use Rattle.std.proofs.Common.{ℕ, ◌≤◌, ◌<◌, sym, ◌∙◌, get_or, arith}
use mathlib.Core.Path.{subst}
use Rattle.format.specs.Packing.{bit_length}
use Rattle.format.proofs.Widths.{width_narrow, width_full, legal_narrow}
use Rattle.c_row.specs.Short.{Stands}
use Rattle.c_row.proofs.Numbers.{some_bits}
use Rattle.c_row.proofs.packed_at.Goals as goal

pub returns-then-bits-gt56 : goal.returns-then-bits-gt56
returns-then-bits-gt56 c e =
    let a = c.args in
    let count = get_or a.numbers.now 3 0 in
    let full : 56 < bit_length count = omega (arith, c.if-bits-gt56.true, c.bits_of-bits.ensures) in
    subst (λ (w : ℕ). Stands a.numbers.now a.bytes.now 0 w a.row c.number_at.result.value) (sym (width_full count full)) (c.number_at.ensures e)

pub number_at-requires-2 : goal.number_at-requires-2
number_at-requires-2 c =
    let count = get_or c.args.numbers.now 3 0 in
    (legal_narrow _ c.if-bits-gt56.false, omega (arith, c.bits_of-bits.ensures, some_bits count (omega (arith, c.if-count-eq0.false))), c.requires)

pub returns : goal.returns
returns c e =
    let a = c.args in
    let count = get_or a.numbers.now 3 0 in
    let narrow : bit_length count ≤ 56 = omega (arith, c.if-bits-gt56.false, c.bits_of-bits.ensures) in
    subst (λ (w : ℕ). Stands a.numbers.now a.bytes.now 0 w a.row c.number_at-2.result.value) (c.bits_of-bits.ensures ∙ sym (width_narrow count narrow)) (c.number_at-2.ensures e)
