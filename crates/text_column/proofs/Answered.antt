-- What opening found, from what it answered.
--     found_column      a column in the answer was opened of the bytes
--     found_refusal     a refusal in the answer is that of the bytes, by its number
-- Assumes nothing.
use Rattle.format.specs.Refusals.{answered_by}
use Rattle.std.specs.Prelude.{Option, Result, Ok, Err}
use Prim.Native.Nat.{ℕ}
use mathlib.Core.Path.{◌≡◌, refl, sym, ap, ◌∙◌}
use mathlib.Core.List.{List}
use Rattle.format.specs.declared.Column.{Column}
use Rattle.format.specs.declared.Refusal.{Refusal}
use Rattle.format.specs.Listing.{opened_here}
use Rattle.format.specs.Opening.{Loaded, column_in}
use Rattle.format.specs.Outcome.{Outcome, Outcome.value, Outcome.refusal}
use Rattle.format.proofs.Outcomes.{not_value, value_same}
use Rattle.text.specs.Refused.{refused_by}
use Rattle.text_column.specs.Own.{Opens}

module _ (s : List ℕ) {r : Result (Column × Option ℕ) Refusal} (answer : answered_by r ≡ column_in (opened_here s)) where
  pub found_column : {c : Column} {p : Option ℕ} → r ≡ Ok (c, p) → Opens s c
  found_column {c} {p} is = go (opened_here s) refl (sym (ap answered_by is) ∙ answer)
    where
      go : (o : Outcome Loaded) → opened_here s ≡ o → answered_by (Ok (c, p)) ≡ column_in o → Opens s c
      go (value l) e f = record { found = l; opened = e; column = sym (ap (λ (x : Column × (Option ℕ)). x.0) (value_same f)) }
      go (refusal number also) e f = absurd (not_value (sym f))

  pub found_refusal : {x : Refusal} → r ≡ Err x → (also : List ℕ) × (opened_here s ≡ refusal (refused_by (answered_by r)) also)
  found_refusal {x} is = go (opened_here s) refl answer
    where
      go : (o : Outcome Loaded) → opened_here s ≡ o → answered_by r ≡ column_in o → (also : List ℕ) × (opened_here s ≡ refusal (refused_by (answered_by r)) also)
      go (value l) e f = absurd (not_value (sym (ap answered_by is) ∙ f))
      go (refusal number also) e f = (also, e ∙ ap (λ (n : ℕ). refusal n also) (sym (ap refused_by f)))
