-- What the answers of a reading mean: what was reached, or where it stops.
-- Assumes nothing.
use Rattle.std.specs.Prelude.{ℕ, ◌≡◌, List, Option, Result, Ok, Err}
use Rattle.format.specs.declared.Stop.{Stop}
use Rattle.format.specs.Stops.{Reach, Reach.reached, Reach.stops, stop_of}

-- what `stop` promises: opening stops there
abbrev pub StopsAs : (s : List ℕ) → Option Stop → Type 0
StopsAs s r = r ≡ stop_of s

-- what a reading answers
abbrev pub reached_by : {A : Type 0} → Result A Stop → Reach A
reached_by (Ok a) = reached a
reached_by (Err t) = stops t
