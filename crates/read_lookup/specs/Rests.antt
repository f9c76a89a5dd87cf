-- What is left of a lookup, where its count tells it.
-- Assumes nothing.
use Rattle.format.specs.declared.Refusal.{Refusal}
use Rattle.std.specs.Prelude.{ℕ, zero, suc, ◌≡◌, Bool, List, [], ◌∷◌, Result}
use Rattle.format.specs.Outcome.{Outcome, pick}
use Rattle.format.specs.Calls.{StoredAs}

-- n rows, one after the other, from r on
unfoldable pub rows_from : (r n : ℕ) → List ℕ
rows_from r zero = []
rows_from r (suc n) = r ∷ rows_from (suc r) n

-- a lookup that is to find o is done, with an answer, or the list is left as it was
pub record DoneAs (done : Bool) (o : Outcome (List ℕ)) (answer : Result ℕ Refusal) (before old new : List ℕ) : Type 0 where
  pub either : pick done (StoredAs o answer before new) (new ≡ old)
