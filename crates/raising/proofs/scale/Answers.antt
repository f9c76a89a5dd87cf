-- `raising::scale` meets its contract, by the invariant `Scaling`.
-- Assumes nothing.
use mathlib.Core.Path.{◌≡◌, refl}
use native.Mathlib.Omega.{arith}
use lib.ListN.{length, get_or}
use Rattle.std.proofs.lemmas.List.{set-get_or}
use Rattle.format.proofs.Runs.{scaled_below}
use Rattle.raising.proofs.Filling.{scaling_starts, scaling_more, scaling_ends, scaling_stops}
use Rattle.raising.proofs.scale.Goals as goal

pub loop-i-init : goal.loop-i-init
loop-i-init c = scaling_starts _ _ _ _

pub shape_of-values-then-count-multiple : goal.shape_of-values-then-count-multiple
shape_of-values-then-count-multiple c = rw set-get_or c.loop-i.invariant.kept

pub returns-then-count-multiple : goal.returns-then-count-multiple
returns-then-count-multiple c = rw set-get_or (scaling_stops _ _ _ _ c.loop-i.invariant (omega arith) c.if-count-multiple.true)

pub overflow_mul-value : goal.overflow_mul-value
overflow_mul-value c = record {
  fits = omega (arith, scaled_below c.args.column.minimum c.args.column.gcd c.args.column.count (get_or c.loop-i.values c.loop-i.i 0) c.requires c.if-count-multiple.false);
}

pub overflow_add-value : goal.overflow_add-value
overflow_add-value c = record {
  fits = scaled_below c.args.column.minimum c.args.column.gcd c.args.column.count (get_or c.loop-i.values c.loop-i.i 0) c.requires c.if-count-multiple.false;
}

pub loop-i-preserved : goal.loop-i-preserved
loop-i-preserved c = scaling_more _ _ _ _ c.loop-i.invariant (omega arith) c.if-count-multiple.false

pub shape_of-values : goal.shape_of-values
shape_of-values c = c.loop-i.invariant.kept

pub returns : goal.returns
returns c =
    let all : c.loop-i.i ≡ length c.loop-i.values = omega arith in
    scaling_ends _ _ _ _ (rw (← all) c.loop-i.invariant) refl
