-- The number of a refusal.
-- Assumes nothing.
use Rattle.std.specs.Prelude.{ℕ, Option}
use Rattle.format.specs.declared.Column.{Column}
use Rattle.format.specs.Outcome.{Outcome, Outcome.value, Outcome.refusal}

-- a refusal's number; 0 for none
abbrev pub refused_by : Outcome (Column × (Option ℕ)) → ℕ
refused_by (value a) = 0
refused_by (refusal number also) = number
