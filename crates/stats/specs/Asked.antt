-- What the functions below the entry points ask of statistics.
-- Assumes nothing.
use Rattle.std.specs.Prelude.{ℕ, ◌^◌, ◌≤◌, ◌<◌, ◌≡◌, List, length}
use Rattle.format.specs.declared.ColumnStats.{ColumnStats}
use Rattle.format.specs.Word.{AllBelow}
use Rattle.format.specs.Stats.{stats_of}

-- statistics that a head can be made of
pub record Sound (s : ColumnStats) : Type 0 where
  pub some : 0 < s.gcd
  pub ordered : s.minimum ≤ s.maximum

-- the statistics are those of the values, which are fewer than 2^32 and numbers of 64 bits
pub record Describes (s : ColumnStats) (vs : List ℕ) : Type 0 where
  pub stats : s ≡ stats_of vs
  pub few : length vs < 2 ^ 32
  pub words : AllBelow (2 ^ 64) vs
