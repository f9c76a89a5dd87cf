-- What is known of values and their own statistics.
--     ordered           the minimum is at most the maximum
--     sound_of          a head can be made of them
--     value_above       no value is below the minimum
--     step_fits         a normalised value fits into the width of the count
--     steps_length      as many normalised values as values
--     stored_above, stored_step, stored_count
--                       the same of values that are lent as words
-- Assumes nothing.
use mathlib.Core.Path.{◌≡◌, sym, ap, ◌∙◌}
use mathlib.Core.List.{List, [], ◌∷◌, map}
use Prim.Native.Nat.{ℕ, ◌^◌, ◌≤◌, ◌<◌}
use native.Mathlib.Nat.{le_trans, zero-lt-suc}
use native.Mathlib.Omega.{arith}
use lib.ListN.{length, get_or, length-map}
use Rattle.format.specs.declared.ColumnStats.{ColumnStats}
use Rattle.format.specs.declared.Kind.{Kind}
use Rattle.format.specs.Packing.{width}
use Rattle.format.specs.Stats.{reduce, least, greatest, count_of, stats_of}
use Rattle.format.specs.Bodies.{normalised}
use Rattle.format.specs.Typed.{stored_in, stored_as}
use Rattle.format.proofs.Lists.{map_at}
use Rattle.format.proofs.StoredLists.{stored-length, stored_is, stored_there}
use Rattle.format.proofs.Widths.{width_fits}
use Rattle.format.proofs.Statistics.{least_most, greatest-least, gcd_positive, multiple_within, count_below}
use Rattle.stats.specs.Asked.{Sound, Describes}

-- the minimum is at most the maximum, also of no values
pub ordered : (vs : List ℕ) → least vs ≤ greatest vs
unfolding reduce
ordered [] = omega arith
ordered (v ∷ vs) = le_trans (least_most (v ∷ vs) 0 (zero-lt-suc _)) (greatest-least (v ∷ vs) 0 (zero-lt-suc _))

module _ {s : ColumnStats} {vs : List ℕ} (d : Describes s vs) where
  pub sound_of : Sound s
  unfolding stats_of
  sound_of = rw d.stats (record { some = gcd_positive vs; ordered = ordered vs })

  pub value_above : (i : ℕ) → i < length vs → s.minimum ≤ get_or vs i 0
  unfolding stats_of
  value_above i h = rw d.stats (least_most vs i h)

  pub step_fits : (i : ℕ) → i < length vs → normalised s (get_or vs i 0) < 2 ^ width (count_of s)
  unfolding stats_of
  step_fits i h = rw d.stats (width_fits (count_of (stats_of vs)) _ (count_below vs d.words) (multiple_within vs i h))

  pub steps_length : length (map (normalised s) vs) ≡ length vs
  steps_length = length-map vs (normalised s)

-- ---- values that are lent as words

module _ {s : ColumnStats} (kind : Kind) (xs : List ℕ) (d : Describes s (stored_as kind xs)) where
  module _ (i : ℕ) {v : ℕ} (h : i < length xs) (e : v ≡ stored_in kind (get_or xs i 0)) where
    pub stored_above : s.minimum ≤ v
    stored_above = rw (stored_is kind xs i h e) (value_above d i (stored_there kind xs i h))

    pub stored_step : normalised s v ≡ get_or (map (normalised s) (stored_as kind xs)) i 0
    stored_step = ap (normalised s) (stored_is kind xs i h e) ∙ sym (map_at (normalised s) (stored_as kind xs) i (stored_there kind xs i h))

  pub stored_count : length (map (normalised s) (stored_as kind xs)) ≡ length xs
  stored_count = steps_length d ∙ stored-length kind xs
