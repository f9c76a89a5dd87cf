-- A chunk that is decoded where it is to stand.
-- Assumes nothing.
use Rattle.format.specs.declared.Refusal.{Refusal}
use Rattle.std.specs.Prelude.{ℕ, ◌≡◌, List, length, Result}
use Rattle.std.proofs.lemmas.List.Edits.{sets}
use Rattle.format.specs.Outcome.{Outcome}
use Rattle.read_row.specs.Chunks.{DecodedAs}

-- decoding found o, in so many values that were put into a list from an entry on
pub record PlacedAs (o : Outcome (List ℕ)) (r : Result (Unit {0}) Refusal) (size at : ℕ) (before after : List ℕ) : Type 0 where
  pub values : List ℕ
  pub found : DecodedAs o r values
  pub long : length values ≡ size
  pub list : after ≡ sets before at values
