-- A verdict as three numbers: what a caller of a check finds.
-- Assumes nothing.
use Rattle.std.specs.Prelude.{ℕ, List, [], ◌∷◌, get_or}
use Rattle.format.specs.Checking.{Reason, Reason.unopened, Reason.counts, Reason.unequal, Reason.minimum, Reason.gcd, Reason.maximum, Verdict, Verdict.passed, Verdict.failed}

-- a reason's number, from 1 on, and its own two
abbrev pub reason_numbers : Reason → List ℕ
reason_numbers (unopened number also) = 1 ∷ number ∷ get_or also 0 0 ∷ []
reason_numbers (counts column list) = 2 ∷ column ∷ list ∷ []
reason_numbers (unequal row) = 3 ∷ row ∷ 0 ∷ []
reason_numbers minimum = 4 ∷ 0 ∷ 0 ∷ []
reason_numbers gcd = 5 ∷ 0 ∷ 0 ∷ []
reason_numbers maximum = 6 ∷ 0 ∷ 0 ∷ []

-- the three numbers of a verdict
abbrev pub verdict_numbers : Verdict → List ℕ
verdict_numbers passed = 0 ∷ 0 ∷ 0 ∷ []
verdict_numbers (failed reason) = reason_numbers reason
