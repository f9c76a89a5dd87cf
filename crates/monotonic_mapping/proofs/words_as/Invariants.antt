-- The entries before `x` are mapped, and those from it on are as they were.
-- Assumes nothing.
use Rattle.std.proofs.Common.{◌≡◌, ℕ, ◌≤◌, ◌<◌, get_or}
use Rattle.monotonic_mapping.specs.Words.{word_of}
use Rattle.monotonic_mapping.proofs.words_as.Given as goal

abbrev pub invariant-loop-x : goal.invariant-loop-x
invariant-loop-x l =
    ((k : ℕ) → k < l.x-index → get_or l.list k 0 ≡ word_of l.kind (get_or l.initial.list k 0))
    × ((k : ℕ) → l.x-index ≤ k → get_or l.list k 0 ≡ get_or l.initial.list k 0)
