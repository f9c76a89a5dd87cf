-- A divisor that was made ready.
-- Assumes nothing.
use Rattle.std.specs.Prelude.{◌*◌, ◌^◌, ◌<◌}
use Rattle.word.specs.declared.divisor.Divisor.{Divisor}

-- its shift can be made, and no quotient up to the largest has a product of more than 64 bits; of the inverse nothing is asked
pub record Ready (d : Divisor) : Type 0 where
  pub shift : d.shift < 64
  pub most : d.most * d.by < 2 ^ 64
