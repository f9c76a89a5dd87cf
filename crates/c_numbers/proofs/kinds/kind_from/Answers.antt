-- `c_numbers::kinds::kind_from` meets its contract: each arm is a case of the definition.
-- Assumes nothing.
use Rattle.std.proofs.Common.{arith}
use Rattle.c_numbers.proofs.Naming.{plain_is, signed_is, date_is, flag_is, float_is, no_kind}
use Rattle.c_numbers.proofs.kinds.kind_from.Goals as goal

pub returns-in-0 : goal.returns-in-0
returns-in-0 c = plain_is _ c.in-0.is

pub returns-in-1 : goal.returns-in-1
returns-in-1 c = signed_is _ c.in-1.is

pub returns-in-2 : goal.returns-in-2
returns-in-2 c = date_is _ c.in-2.is

pub returns-in-3 : goal.returns-in-3
returns-in-3 c = flag_is _ c.in-3.is

pub returns-in-4 : goal.returns-in-4
returns-in-4 c = float_is _ c.in-4.is

pub returns-in_default : goal.returns-in_default
returns-in_default c =
    no_kind _ (λ e. absurd (omega arith)) (λ e. absurd (omega arith)) (λ e. absurd (omega arith)) (λ e. absurd (omega arith)) (λ e. absurd (omega arith))
