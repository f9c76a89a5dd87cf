-- `read_bounds::is_within` meets its contract: rows with multiples up to the count have values.
-- Assumes nothing.
use Prim.Native.Nat.{ℕ, ◌≤◌}
use mathlib.Core.Path.{refl, sym}
use native.Mathlib.Omega.{arith}
use borrow.Author.Tests.{eqb-true}
use Rattle.format.proofs.Lists.{front_length}
use Rattle.read_row.specs.Chunks.{Chunk}
use Rattle.read_bounds.proofs.Sures.{never, multiples_stand, multiples_fit}
use Rattle.read_bounds.proofs.is_within.Goals as goal

-- rows of one block are at most 512
few : {rows r n : ℕ} → Chunk rows 0 r n → n ≤ 512
few c = omega (arith, c.one)

pub returns-then-column-le1 : goal.returns-then-column-le1
returns-then-column-le1 c = λ e. never e

pub returns-then-not-is_counted : goal.returns-then-not-is_counted
returns-then-not-is_counted c = λ e. never e

pub slice_bounds-decode_fitting-end : goal.slice_bounds-decode_fitting-end
slice_bounds-decode_fitting-end c = sym (front_length _ _ refl (omega (arith, few c.requires.chunk)))

pub decode_fitting-n-requires : goal.decode_fitting-n-requires
decode_fitting-n-requires c = record {
  chunk = (multiples_fit c.args.column c.args.block c.args.bytes.now c.args.first.0 c.args.size c.multiples.result c.multiples.ensures (front_length _ _ refl (omega (arith, few c.requires.chunk))) c.requires.chunk c.requires.fitting (omega (arith, c.if-column-le1.false))).0;
  fitting = (multiples_fit c.args.column c.args.block c.args.bytes.now c.args.first.0 c.args.size c.multiples.result c.multiples.ensures refl c.requires.chunk c.requires.fitting (omega (arith, c.if-column-le1.false))).1;
}

pub returns : goal.returns
returns c =
    λ e. multiples_stand c.args.column c.args.block c.args.bytes.now c.args.first.0 c.args.size c.multiples.result c.multiples.ensures (c.is_counted.ensures (c.if-not-is_counted.false)) c.decode_fitting-n.ensures
    (front_length _ _ refl (omega (arith, few c.requires.chunk))) (omega (arith, c.decode_fitting-n.auto.out)) (eqb-true _ _ e)
