-- A report as two numbers: what a caller of a replay finds.
-- Assumes nothing.
use Rattle.format.specs.declared.Report.{Report}
use Rattle.std.specs.Prelude.{ℕ, ◌-◌, ◌^◌, ◌≡◌, List, [], ◌∷◌, Option, Some, None}
use Rattle.format.specs.Outcome.{Outcome, Outcome.value, ◌>>=◌}
use Rattle.c_numbers.specs.Numbers.{told, filled}

-- the index of the record that differs, 2^64 - 1 where none does
abbrev pub index_of : Option ℕ → ℕ
index_of None = 2 ^ 64 - 1
index_of (Some k) = k

-- the two numbers of a report
abbrev pub report_numbers : Report → List ℕ
report_numbers p = index_of p.differing ∷ p.run ∷ []

-- the numbers of its refusal, and its own
pub record Reports (outcome : Outcome Report) (refusal report report' : List ℕ) : Type 0 where
  pub refusal_is : refusal ≡ told outcome
  pub report_is : report' ≡ filled (outcome >>= (λ (p : Report). value (report_numbers p))) report
