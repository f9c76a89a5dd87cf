-- `bitpacker::singly` meets its contract, by the invariant `Single`.
-- Assumes nothing.
use Prim.Native.Nat.{ℕ, ◌+◌, ◌*◌, ◌^◌, ◌≤◌}
use mathlib.Core.Path.{ap}
use native.Mathlib.Omega.{arith}
use native.Mathlib.Nat.{add-mul, not-suc-le-zero}
use Rattle.bitpacker.proofs.RunLaws.{place_fits, part_length, single_more, single_ends}
use Rattle.bitpacker.proofs.singly.Goals as goal

pub overflow_add-bit : goal.overflow_add-bit
overflow_add-bit c = omega (arith, c.requires.few)

pub overflow_mul-bit : goal.overflow_mul-bit
overflow_mul-bit c = record { fits = place_fits _ _ c.requires.lawful (omega (arith, c.requires.few, c.requires.ordered, c.requires.room)) }

pub loop-value-init : goal.loop-value-init
loop-value-init c = record { place = ap (λ (r : ℕ). r * c.args.width) (omega arith); done = λ k h. absurd (not-suc-le-zero h) }

pub get_at-requires : goal.get_at-requires
get_at-requires c = c.requires.lawful

pub overflow_add-bit-in-loop-value : goal.overflow_add-bit-in-loop-value
overflow_add-bit-in-loop-value c =
    let s = c.loop-value.invariant in
    let more = c.args.first + (c.args.from + c.loop-value.value-index) in
    let last : more + 1 ≤ 2 ^ 32 = omega (arith, c.requires.few, c.requires.room, part_length c.args.from c.args.to c.args.out.now c.requires.room) in
    omega (arith, s.place, add-mul more 1 c.args.width, place_fits c.args.width (more + 1) c.requires.lawful last)

pub loop-value-preserved : goal.loop-value-preserved
loop-value-preserved c = single_more c.loop-value.invariant (omega arith) (c.get_at.ensures _ c.loop-value.invariant.place)

pub returns : goal.returns
returns c u =
    let all = part_length c.args.from c.args.to c.args.out.now c.requires.room in
    single_ends c.loop-value.invariant _ (omega (arith, c.requires.ordered, c.requires.room)) (omega arith) (omega arith) u
