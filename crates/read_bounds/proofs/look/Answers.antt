-- `read_bounds::look` meets its contract.
-- Assumes nothing.
use mathlib.Core.Path.{refl, sym}
use native.Mathlib.Omega.{arith}
use Rattle.format.proofs.Lists.{front_length}
use Rattle.read_bounds.proofs.Sures.{chunk_as, looked_as}
use Rattle.read_bounds.proofs.look.Goals as goal

pub returns-then-is_whole : goal.returns-then-is_whole
returns-then-is_whole c = c.is_whole.ensures c.if-is_whole.true

pub slice_bounds-decode-end : goal.slice_bounds-decode-end
slice_bounds-decode-end c = sym (front_length _ _ refl (omega (arith, c.requires.one)))

pub decode-requires : goal.decode-requires
decode-requires c = chunk_as (front_length _ _ refl (omega (arith, c.requires.one))) c.requires

pub returns : goal.returns
returns c = looked_as _ _ (front_length _ _ refl (omega (arith, c.requires.one))) c.decode.ensures (omega (arith, c.decode.auto.out))
