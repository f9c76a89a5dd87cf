-- Where a walk over a list of stored numbers stands.
-- Assumes nothing.
use Rattle.std.specs.Prelude.{ℕ, ◌≤◌, min, max, ◌≡◌, List, length, get_or, drop}
use Rattle.format.specs.Stats.{fold_from, least, greatest, gcd_from}
use Rattle.stats_collector.specs.declared.Seen.{Seen}

-- folding the rest of the numbers, from what was seen and a gcd on, gives each statistic of them all
pub record Rest (vs : List ℕ) (first g : ℕ) (seen : Seen) : Type 0 where
  pub inside : seen.next ≤ length vs
  pub low : fold_from min seen.lo (drop seen.next vs) ≡ least vs
  pub high : fold_from max seen.hi (drop seen.next vs) ≡ greatest vs
  pub common : gcd_from first g (drop seen.next vs) ≡ gcd_from (get_or vs 0 0) 0 (drop 1 vs)
