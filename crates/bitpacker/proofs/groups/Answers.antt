-- `bitpacker::groups` meets its contract, by the invariant `Grouping`.
-- Assumes nothing.
use mathlib.Core.Path.{refl}
use native.Mathlib.Omega.{arith}
use lib.Dec.{lit<}
use Rattle.bitpacker.proofs.RunLaws.{place_fits, group_starts, group_inside, group_next, unpacked_to}
use Rattle.bitpacker.proofs.groups.Goals as goal

pub overflow_add-at : goal.overflow_add-at
overflow_add-at c = omega (arith, c.requires.few)

pub overflow_mul-at : goal.overflow_mul-at
overflow_mul-at c = record { fits = place_fits _ _ c.requires.lawful (omega (arith, c.requires.few, c.requires.ordered, c.requires.room)) }

pub loop-i-init : goal.loop-i-init
loop-i-init c =
    record {
      low = omega arith;
      high = c.requires.ordered;
      eights = c.requires.eights;
      place = group_starts _ _ c.requires.starts;
      kept = refl;
      done = λ u. u;
    }

pub put_eight-requires : goal.put_eight-requires
put_eight-requires c =
    let g = c.loop-i.invariant in
    let eighth = c.loop-i-test.true in (
      record {
        lawful = c.requires.lawful;
        wide = omega (arith, c.requires.rests);
        rests = omega (arith, c.requires.rests);
        eighth = lit< tt;
        inside = group_inside _ _ _ _ _ _ g.place (omega (arith, g.eights, eighth)) c.requires.inside;
      },
      omega (arith, g.eights, eighth, c.requires.room, g.kept),
    )

pub overflow_add-at-in-loop-i : goal.overflow_add-at-in-loop-i
overflow_add-at-in-loop-i c =
    let g = c.loop-i.invariant in
    omega (arith, group_inside _ _ _ _ _ _ g.place (omega (arith, g.eights, c.loop-i-test.true)) c.requires.inside)

pub overflow_add-i : goal.overflow_add-i
overflow_add-i c =
    let g = c.loop-i.invariant in
    omega (arith, g.eights, c.loop-i-test.true, c.requires.room, c.requires.few)

pub loop-i-smaller : goal.loop-i-smaller
loop-i-smaller c = omega (arith, c.loop-i-test.true)

pub loop-i-preserved : goal.loop-i-preserved
loop-i-preserved c =
    let g = c.loop-i.invariant in
    record {
      low = omega (arith, g.low);
      high = omega (arith, g.eights, c.loop-i-test.true);
      eights = omega (arith, g.eights, c.loop-i-test.true);
      place = group_next _ _ _ _ g.place;
      kept = omega (arith, g.kept, c.put_eight.auto);
      done = λ u. c.put_eight.ensures _ g.place (g.done u);
    }

pub shape_of-out : goal.shape_of-out
shape_of-out c = c.loop-i.invariant.kept

pub returns : goal.returns
returns c u =
    let g = c.loop-i.invariant in
    unpacked_to _ (omega (arith, g.high, c.loop-i-test.false)) (g.done u)
