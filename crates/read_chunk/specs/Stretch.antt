-- Rows up to the first that reading refuses, over any reading of rows: what a call answers and stores that reads so far.
-- Assumes nothing.
use Rattle.format.specs.declared.Refusal.{Refusal}
use Rattle.std.specs.Prelude.{ℕ, zero, suc, ◌≡◌, List, [], ◌∷◌, length, Result, Ok, Err}
use Rattle.std.proofs.lemmas.List.Edits.{sets}
use Rattle.format.specs.Outcome.{Outcome, Outcome.value, Outcome.refusal, ◌>>=◌}
use Rattle.format.specs.Refusals.{numbered}

-- an answer before values: a value goes before them, a refusal ends them
abbrev pub leading : Outcome ℕ → List ℕ → List ℕ
leading (value v) vs = v ∷ vs
leading (refusal number also) vs = []

-- the values of n rows from r on, up to the first that reading refuses
unfoldable pub stretch : (read : ℕ → Outcome ℕ) (r n : ℕ) → List ℕ
stretch read r zero = []
stretch read r (suc n) = leading (read r) (stretch read (suc r) n)

-- its refusal, if one of them is refused
unfoldable pub ending : (read : ℕ → Outcome ℕ) (r n : ℕ) → Outcome (Unit {0})
ending read r zero = value tt
ending read r (suc n) = read r >>= (λ (_ : ℕ). ending read (suc r) n)

-- how many values an answer counts
abbrev pub counted : Result ℕ (ℕ × Refusal) → ℕ
counted (Ok n) = n
counted (Err (n, x)) = n

-- and how it says that they end
abbrev pub ended : Result ℕ (ℕ × Refusal) → Outcome (Unit {0})
ended (Ok n) = value tt
ended (Err (n, x)) = numbered x

-- n rows from r on were read so far, into the front of a list
pub record StretchAs (read : ℕ → Outcome ℕ) (r n : ℕ) (answer : Result ℕ (ℕ × Refusal)) (old new : List ℕ) : Type 0 where
  pub count : counted answer ≡ length (stretch read r n)
  pub end : ended answer ≡ ending read r n
  pub list : new ≡ sets old 0 (stretch read r n)
