-- `byte_stop::bodies::blocks` meets its contract, by what the loop keeps.
-- Assumes nothing.
use Rattle.std.proofs.Common.{◌≡◌, sym, rules}
use Rattle.format.specs.declared.PartName.TheVariants.{BlockSlope, BlockIntercept, BlockWidth}
use Rattle.format.specs.Bodies.{block_count}
use Rattle.format.specs.Stops.{Reach.stops, reach_blocks}
use Rattle.blockwise_linear.specs.Reader.{up_to_length}
use Rattle.byte_stop.proofs.Reaching.{fields_narrow}
use Rattle.byte_stop.proofs.Blocking.{blocking_more, blocking_stops, blocking_ends}
use Rattle.byte_stop.proofs.bodies.blocks.Goals as goal

pub behind-c-requires : goal.behind-c-requires
behind-c-requires c =
    let k = c.loop-c.k in
    (c.loop-c.invariant.small, fields_narrow (BlockSlope k) (BlockIntercept k) (BlockWidth k) (up_to_length c.args.bytes.now) c.loop-c.c.at _ (sym c.in_ok-f.ensures))

pub loop-c-preserved : goal.loop-c-preserved
loop-c-preserved c =
    blocking_more c.loop-c.invariant c.loop-c-test.true _ (sym c.in_ok-f.ensures) c.behind-c.ensures.0 c.behind-c.ensures.1

pub returns-in_err-f : goal.returns-in_err-f
returns-in_err-f c =
    let stopped : stops c.in_err-f.field-0.0 ≡ reach_blocks 0 (block_count c.args.place.left) (up_to_length c.args.bytes.now) c.args.place.at c.args.place.start c.args.place.left =
    blocking_stops c.loop-c.invariant c.loop-c-test.true _ (sym c.in_err-f.ensures) in
    search rules

pub returns : goal.returns
returns c = blocking_ends c.loop-c.invariant c.loop-c-test.false
