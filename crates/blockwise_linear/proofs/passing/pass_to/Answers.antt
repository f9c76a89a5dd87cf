-- `pass_to` meets its contract, by what the loop keeps: a block further is a pass again.
-- Assumes nothing.
use Rattle.std.proofs.Common.{◌≡◌, refl, sym, ap, ◌∙◌, subst, ◌+◌, min, arith}
use Rattle.format.specs.Bodies.{block_count}
use Rattle.blockwise_linear.specs.declared.passing.Pass.{Pass}
use Rattle.blockwise_linear.specs.Passing.{Passing}
use Rattle.blockwise_linear.proofs.Stops.{passing_starts, passing_good, passing_further}
use Rattle.blockwise_linear.proofs.passing.pass_to.Goals as goal
use Rattle.blockwise_linear.proofs.passing.pass_to.Goals.{then-k-blocks, else-k-blocks, then-end-p, else-end-p}

pub loop-init : goal.loop-init
loop-init c =
    let end : c.if-k-blocks.end ≡ min (c.args.k + 1) (block_count c.args.rows) =
    elim c.if-k-blocks.branch [ then-k-blocks w ↦ omega (arith, c.block_count-blocks.ensures) | else-k-blocks w ↦ omega (arith, c.block_count-blocks.ensures) ] in
    elim c.if-end-p.branch [
      | then-end-p w ↦
          (let start = passing_starts (w.p-is ∙ w.begin-p.ensures) in (end, start.0, refl, omega (arith, start.1)))
      | else-end-p w ↦
          (end, subst (λ (p : Pass). Passing c.args.bytes.now c.args.rows p) (sym w.p-is) c.requires.passing, refl, omega (arith, ap (λ (p : Pass). p.count) w.p-is, w.if-end-p.false))
    ]

pub further-p-requires-clause-small : goal.further-p-requires-clause-small
further-p-requires-clause-small c =
    (passing_good (omega arith) c.requires.good c.loop.invariant.1 (omega (arith, c.loop.invariant.0))).0

pub further-p-requires-clause-good : goal.further-p-requires-clause-good
further-p-requires-clause-good c =
    (passing_good (omega arith) c.requires.good c.loop.invariant.1 (omega (arith, c.loop.invariant.0))).1

pub loop-preserved : goal.loop-preserved
loop-preserved c =
    let on = passing_further (omega arith) c.requires.good c.loop.invariant.1 (omega (arith, c.loop.invariant.0)) c.further-p.ensures in
    (c.loop.invariant.0, on.0, omega (arith, on.1), omega arith)
