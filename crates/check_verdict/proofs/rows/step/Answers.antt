-- `step` meets its contract: a chunk without values ends the walk, and another goes on behind those that are the list's.
-- Assumes nothing.
use Prim.Native.Nat.{ℕ}
use mathlib.Core.Path.{sym, ap, ◌∙◌}
use mathlib.Core.List.{List}
use native.Mathlib.Omega.{arith}
use borrow.Author.Rules.{part_to_end}
use lib.ListN.{take}
use lib.Seq.{length-take-le}
use Rattle.format.specs.Typed.{stored_as}
use Rattle.read_chunk.specs.Stretch.{counted}
use Rattle.check_verdict.specs.Walks.{same_front}
use Rattle.check_verdict.proofs.Steps.{behind_none, front_few, behind_some}
use Rattle.check_verdict.proofs.rows.step.Goals as goal

pub returns-then-n-eq0 : goal.returns-then-n-eq0
returns-then-n-eq0 c = behind_none (counted c.args.stretch) c.args.decoded.now _ c.args.w (sym c.values_of-n.ensures ∙ c.if-n-eq0.true)

pub slice_bounds-same_front-end : goal.slice_bounds-same_front-end
slice_bounds-same_front-end c = sym (length-take-le c.values_of-n.result c.args.decoded.now (omega (arith, c.values_of-n.ensures, c.requires.0)))

pub overflow_cast-result : goal.overflow_cast-result
overflow_cast-result c = record { fits = omega (arith, front_few c.values_of-n.result c.args.decoded.now _ c.same_front-same.ensures, c.values_of-n.ensures, c.requires.2) }

pub overflow_add-result : goal.overflow_add-result
overflow_add-result c = record { fits = omega (arith, front_few c.values_of-n.result c.args.decoded.now _ c.same_front-same.ensures, c.values_of-n.ensures, c.requires.2) }

pub returns : goal.returns
returns c =
    behind_some c.args.kind (counted c.args.stretch) c.values_of-n.result c.same_front-same.result c.args.decoded.now c.args.values.now c.args.w c.values_of-n.ensures c.if-n-eq0.false
    (c.same_front-same.ensures ∙ ap (λ (l : List ℕ). same_front (take c.values_of-n.result c.args.decoded.now) (stored_as c.args.kind l)) (part_to_end c.args.values.now c.args.w.at))
