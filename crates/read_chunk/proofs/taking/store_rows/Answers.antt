-- `store_rows` meets its contract, by the invariant `Storing` over the list's front.
-- Assumes nothing.
use Rattle.format.specs.Refusals.{answered_by}
use mathlib.Core.Path.{◌≡◌}
use native.Mathlib.Omega.{arith}
use Rattle.std.proofs.lemmas.List.{length-take-le, set-get_or}
use Rattle.format.proofs.Outcomes.{told}
use Rattle.read_chunk.proofs.Stretches.{storing_more, storing_whole, storing_stopped, stretch_front}
use Rattle.read_chunk.proofs.taking.store_rows.Goals as goal

pub returns-in-Err : goal.returns-in-Err
returns-in-Err c =
    let long = length-take-le c.args.size c.args.out.now c.requires.1 in
    rw (set-get_or c.loop-i.value-items c.loop-i.i 0)
    (stretch_front _ _ _ c.requires.1 (storing_stopped _ c.loop-i.invariant (omega arith) (told answered_by c.row_in.ensures c.in-Err.is)))

pub loop-i-preserved : goal.loop-i-preserved
loop-i-preserved c =
    let long = length-take-le c.args.size c.args.out.now c.requires.1 in
    storing_more _ c.loop-i.invariant (omega arith) (told answered_by c.row_in.ensures c.in-Ok.is)

pub returns : goal.returns
returns c =
    let long = length-take-le c.args.size c.args.out.now c.requires.1 in
    let all : c.loop-i.i ≡ c.args.size = omega (arith, c.loop-i.invariant.few) in
    let whole = storing_whole _ c.loop-i.invariant (omega arith) in
    stretch_front _ _ _ c.requires.1 (rw all at whole)
