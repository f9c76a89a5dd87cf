-- `float::nearest` meets its contract.
-- Assumes nothing.
use Rattle.std.proofs.Common.{◌≡◌, ℕ, ◌*◌, ◌/◌, ◌^◌, pos, ap, ◌∙◌, arith}
use lib.Ieee.{binary32, of_int}
use Rattle.float.proofs.Marks.{marked}
use Rattle.float.proofs.nearest.Goals as goal

-- sixteen zeros are taken off and put back
pub returns-then-n-eq0 : goal.returns-then-n-eq0
returns-then-n-eq0 c =
    let n = c.args.n in
    let whole : n / 2 ^ 16 * 2 ^ 16 ≡ n = omega arith in
    c.of_upper_halves.ensures ∙ ap (λ (m : ℕ). of_int binary32 (pos m)) whole

pub returns : goal.returns
returns c =
    let n = c.args.n in
    c.of_upper_halves-2.ensures ∙ marked n c.if-n-lt281474976710656.false c.if-n-eq0.false
