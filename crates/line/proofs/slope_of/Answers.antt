-- `line::slope_of` meets its contract: each return is one case of `slope_of`, with the difference d that was computed.
-- Assumes nothing.
use Rattle.std.proofs.Common.{◌≡◌, ℕ, ◌-◌, ◌*◌, ◌/◌, ◌^◌, ◌≤◌, ◌<◌}
use borrow.Author.Tests.{le-leb, lt-leb, lt-ltb, le-ltb}
use Rattle.format.specs.Word.{mod_sub}
use Rattle.format.specs.Line.{rising, height, slope_of}
use Rattle.line.proofs.slope_of.Goals as goal

module _ (y0 yl steps d : ℕ) where
  rises : d ≡ mod_sub yl y0 → d ≤ 2 ^ 63 → d < 2 ^ 31 → d * 2 ^ 32 / steps ≡ slope_of y0 yl steps
  unfolding slope_of height rising
  rises e up small = simp (← e, le-leb _ _ up, lt-ltb _ _ small)

  rises_far : d ≡ mod_sub yl y0 → d ≤ 2 ^ 63 → 2 ^ 31 ≤ d → 0 ≡ slope_of y0 yl steps
  unfolding slope_of height rising
  rises_far e up far = simp (← e, le-leb _ _ up, le-ltb _ _ far)

  falls : (u : ℕ) → u ≡ mod_sub yl y0 → 2 ^ 63 < u → d ≡ mod_sub y0 yl → d < 2 ^ 31 → 2 ^ 64 - 1 - d * 2 ^ 32 / steps ≡ slope_of y0 yl steps
  unfolding slope_of height rising
  falls u f down e small = simp (← e, ← f, lt-leb _ _ down, lt-ltb _ _ small)

  falls_far : (u : ℕ) → u ≡ mod_sub yl y0 → 2 ^ 63 < u → d ≡ mod_sub y0 yl → 2 ^ 31 ≤ d → 0 ≡ slope_of y0 yl steps
  unfolding slope_of height rising
  falls_far u f down e far = simp (← e, ← f, lt-leb _ _ down, le-ltb _ _ far)

pub returns-then-rise-lt2147483648 : goal.returns-then-rise-lt2147483648
returns-then-rise-lt2147483648 c = rises _ _ _ _ c.sub-rise.ensures c.if-rise-le9223372036854775808.true c.if-rise-lt2147483648.true

pub returns-then-rise-le9223372036854775808 : goal.returns-then-rise-le9223372036854775808
returns-then-rise-le9223372036854775808 c = rises_far _ _ _ _ c.sub-rise.ensures c.if-rise-le9223372036854775808.true c.if-rise-lt2147483648.false

pub returns-then-fall-lt2147483648 : goal.returns-then-fall-lt2147483648
returns-then-fall-lt2147483648 c = falls _ _ _ _ _ c.sub-rise.ensures c.if-rise-le9223372036854775808.false c.sub-fall.ensures c.if-fall-lt2147483648.true

pub returns : goal.returns
returns c = falls_far _ _ _ _ _ c.sub-rise.ensures c.if-rise-le9223372036854775808.false c.sub-fall.ensures c.if-fall-lt2147483648.false
