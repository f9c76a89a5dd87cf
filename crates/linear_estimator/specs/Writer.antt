-- What a fit and a spread are of some values.
-- Assumes nothing.
use Rattle.std.specs.Prelude.{◌≡◌, List, ℕ}
use Rattle.format.specs.declared.Line.{Line}
use Rattle.format.specs.Stats.{least, greatest}
use Rattle.format.specs.Bodies.{deviations, linear_line, linear_width}
use Rattle.linear_estimator.specs.declared.Fit.{Fit}
use Rattle.linear_estimator.specs.declared.Spread.{Spread}

-- the least and the greatest deviation from a line
pub record Spreads (l : Line) (vs : List ℕ) (s : Spread) : Type 0 where
  pub low : s.low ≡ least (deviations l vs)
  pub high : s.high ≡ greatest (deviations l vs)

-- the final line, and the width of what is left above it
pub record Fits (vs : List ℕ) (f : Fit) : Type 0 where
  pub line : f.line ≡ linear_line vs
  pub bits : f.bits ≡ linear_width vs
