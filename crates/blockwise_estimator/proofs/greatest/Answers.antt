-- `greatest` meets its contract: one of the numbers, and none is above it.
-- Assumes nothing.
use Rattle.std.proofs.Common.{◌≡◌, refl, ◌∙◌, ℕ, ◌≤◌, ◌<◌, List, [], ◌∷◌, length, get_or, Option, None, Some, MatchOption, arith, rules}
use Rattle.std.specs.Option.{unwrap_or}
use Rattle.format.specs.Stats.{reduce, greatest}
use Rattle.format.proofs.Statistics.{greatest-least, greatest-holds}
use Rattle.blockwise_estimator.proofs.greatest.Goals as goal

-- m is one of the numbers, and none is above it
abbrev Greatest : List ℕ → ℕ → Type 0
Greatest ys m = ((k : ℕ) × (k < length ys) × (get_or ys k 0 ≡ m)) × ((k : ℕ) → k < length ys → get_or ys k 0 ≤ m)

greatest_is : (o : Option ℕ) (ys : List ℕ) → MatchOption o (length ys ≡ 0) (Greatest ys) → unwrap_or o 0 ≡ greatest ys
unfolding reduce
greatest_is None [] none = refl
greatest_is None (y ∷ ys) none = absurd (omega arith)
greatest_is (Some m) ys (here, each) =
    let most : greatest ys ≤ m = greatest-holds (λ g. g ≤ m) ys (omega (arith, here.1)) each in
    let least = greatest-least ys here.0 here.1 in
    omega (arith, here.2)

pub returns : goal.returns
returns c = c.unwrap_or.ensures ∙ greatest_is c.max.result c.args.ys.now (search rules)
