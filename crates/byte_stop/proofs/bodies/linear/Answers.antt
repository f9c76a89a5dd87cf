-- `byte_stop::bodies::linear` meets its contract: a width that was read has at most 64 bits.
-- Assumes nothing.
use Rattle.std.proofs.Common.{sym, arith}
use Rattle.format.specs.declared.PartName.TheVariants.{Slope, Intercept, Width}
use Rattle.byte_stop.proofs.Reaching.{fields_narrow}
use Rattle.byte_stop.proofs.bodies.linear.Goals as goal

pub packed_len-size-requires : goal.packed_len-size-requires
packed_len-size-requires c =
    (omega arith, fields_narrow Slope Intercept Width c.args.bytes.now c.args.head.next c.in-Ok.f (sym c.in-Ok.ensures))
