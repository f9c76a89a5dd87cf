-- The promise of `list_parts` determines its answer: two that it allows coincide, every lent entry included.
--     walks_determined
-- Assumes nothing.
use Prim.Native.Nat.{ℕ}
use mathlib.Core.Path.{◌≡◌, sym, ◌∙◌}
use mathlib.Core.List.{List}
use Rattle.format.specs.Outcome.{Outcome}
use Rattle.c_parts.specs.Listed.{Listed, Walks}

pub walks_determined : (o : Outcome Listed) (place before : List ℕ) (r r' : ℕ) (refusal refusal' place₁ place₁' after after' : List ℕ)
    → Walks o r refusal place place₁ before after → Walks o r' refusal' place place₁' before after'
    → (r ≡ r') × (refusal ≡ refusal') × (place₁ ≡ place₁') × (after ≡ after')
walks_determined o place before r r' refusal refusal' place₁ place₁' after after' p q =
    (p.result_is ∙ sym q.result_is, p.refusal_is ∙ sym q.refusal_is, p.place_is ∙ sym q.place_is, p.list_is ∙ sym q.list_is)
