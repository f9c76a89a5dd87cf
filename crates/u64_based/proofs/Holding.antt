-- The values that a column can hold: fewer than 2^32.
--     few_of                    as many stored numbers as values
--     describes_of              what stands of their statistics
--     too_many, not_too_many    the rule's demand, by what the test of their number found
-- Assumes nothing.
use Prim.Native.Nat.{ℕ, ◌^◌, ◌≤◌, ◌<◌}
use mathlib.Core.Path.{◌≡◌}
use mathlib.Core.List.{List}
use mathlib.Core.Bool.{true, false}
use borrow.Author.Tests.{lt-ltb, le-ltb}
use lib.Dec.{ltb}
use lib.ListN.{length, get_or}
use mir.Syntax.{w64}
use mir.Val.{Fits}
use Rattle.format.specs.declared.ColumnStats.{ColumnStats}
use Rattle.format.specs.declared.Kind.{Kind}
use Rattle.format.specs.Stats.{stats_of}
use Rattle.format.specs.Typed.{stored_as}
use Rattle.format.proofs.StoredLists.{stored-length, stored-words}
use Rattle.stats.specs.Asked.{Describes}

module _ (kind : Kind) (vs : List ℕ) where
  pub few_of : length vs < 2 ^ 32 → length (stored_as kind vs) < 2 ^ 32
  few_of h = rw (stored-length kind vs) h

  pub describes_of : {s : ColumnStats} → length vs < 2 ^ 32 → ((i : ℕ) → Fits w64 (get_or vs i 0)) → s ≡ stats_of (stored_as kind vs) → Describes s (stored_as kind vs)
  describes_of h each is = record { stats = is; few = few_of h; words = stored-words kind vs (λ i b. (each i).fits) }

  pub too_many : 2 ^ 32 ≤ length vs → ltb (length (stored_as kind vs)) (2 ^ 32) ≡ false
  too_many h = rw (stored-length kind vs) (le-ltb (length vs) (2 ^ 32) h)

  pub not_too_many : length vs < 2 ^ 32 → ltb (length (stored_as kind vs)) (2 ^ 32) ≡ true
  not_too_many h = lt-ltb (length (stored_as kind vs)) (2 ^ 32) (few_of h)
