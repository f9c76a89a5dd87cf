-- `judge` meets its contract: the line of a file that holds no values, or of the verdict.
-- Assumes nothing.
use Prim.Native.Nat.{◌≤◌}
use mathlib.Core.Path.{◌≡◌}
use native.Mathlib.Omega.{arith}
use lib.ListN.{length, take}
use Rattle.format.specs.Outcome.{Outcome.value}
use Rattle.text_check.specs.Given.{values_in}
use Rattle.text_check.proofs.Inputs.{taken_values, taken_none}
use Rattle.text_check.proofs.Judgements.{judged_values, judged_none}
use Rattle.text_check.proofs.judge.Goals as goal

pub check_front-checked-requires : goal.check_front-checked-requires
check_front-checked-requires c =
    let few = ((let front-here : (values_in c.args.file.now ≡ value (take c.in-Ok.n c.take.new.values)) × (c.in-Ok.n ≤ 65536) = let room : length c.take.new.values ≡ 65536 = omega arith in
    taken_values c.args.file.now c.take.ensures c.in-Ok.n c.in-Ok.is room in front-here)).1 in
    (omega arith, omega arith)

pub returns-in-Ok : goal.returns-in-Ok
returns-in-Ok c = (
  record {
    values = c.take.ensures.list;
    line = judged_values c.args.sheet.now c.args.bytes.now c.args.file.now ((let front-here : (values_in c.args.file.now ≡ value (take c.in-Ok.n c.take.new.values)) × (c.in-Ok.n ≤ 65536) = let room : length c.take.new.values ≡ 65536 = omega arith in
        taken_values c.args.file.now c.take.ensures c.in-Ok.n c.in-Ok.is room in front-here)).0 c.sheet_of.ensures c.check_front-checked.ensures c.verdict_line.ensures.wrote;
  },
  c.verdict_line.ensures.prefix_len,
)

pub returns-in-Err : goal.returns-in-Err
returns-in-Err c =
    let was = c.in-Err.refusal in (
      record {
        values = c.take.ensures.list;
        line = judged_none c.args.sheet.now c.args.bytes.now c.args.file.now was (taken_none c.args.file.now c.take.ensures was c.in-Err.is) c.number.ensures c.named_line.ensures.wrote;
      },
      c.named_line.ensures.prefix_len,
    )
