-- `line::train` meets its contract: fewer than two values, or the slope and the intercept of more.
-- Assumes nothing.
use Rattle.std.proofs.Common.{◌≡◌, refl, List, [], ◌∷◌, ℕ, ◌≤◌, ◌<◌, length, arith}
use Rattle.format.specs.Line.{slope_through, intercept_of, trained}
use Rattle.line.proofs.train.Goals as goal

-- fewer than two values
short : (ys : List ℕ) → length ys < 2 → record { slope = 0; intercept = 0 } ≡ trained ys
unfolding trained
short [] h = refl
short (y ∷ []) h = refl
short (y ∷ z ∷ ys) h = absurd (omega arith)

-- two values and more
long : (ys : List ℕ) (s b : ℕ) → 2 ≤ length ys → s ≡ slope_through ys → b ≡ intercept_of s ys → record { slope = s; intercept = b } ≡ trained ys
unfolding trained
long [] s b h p q = absurd (omega arith)
long (y ∷ []) s b h p q = absurd (omega arith)
long (y ∷ z ∷ ys) s b h p q = rw (q, p)

pub returns-then-n-lt2 : goal.returns-then-n-lt2
returns-then-n-lt2 c = short c.args.ys.now c.if-n-lt2.true

pub returns : goal.returns
returns c = long c.args.ys.now _ _ c.if-n-lt2.false c.slope_of-slope.ensures c.intercept_of-intercept.ensures
