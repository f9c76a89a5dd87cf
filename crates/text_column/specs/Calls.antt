-- What the entry points promise.
-- Assumes nothing.
use Rattle.format.specs.declared.Refusal.{Refusal}
use Rattle.text_column.specs.declared.own.Own.{Own}
use Rattle.std.specs.Prelude.{ℕ, ◌≡◌, List, Option, Result}
use Rattle.format.specs.declared.Column.{Column}
use Rattle.format.specs.Listing.{opened_here}
use Rattle.format.specs.Opening.{column_in}
use Rattle.format.specs.Refusals.{narrowed_meaning, answered_by}
use Rattle.format.specs.Windows.{narrowing}
use Rattle.blockwise_linear.specs.declared.passing.Pass.{Pass}
use Rattle.text_column.specs.Own.{narrowed_in, own_in}

-- `opening::open_plain`
abbrev pub OpensHereAs : (s : List ℕ) → Result (Column × Option ℕ) Refusal → Type 0
OpensHereAs s r = answered_by r ≡ column_in (opened_here s)

-- `own::narrow` of a column and a pass over its blocks, which stays where it is
abbrev pub NarrowsAs : Column → Pass → (first count : ℕ) → Result Own (Refusal × Own) → Type 0
NarrowsAs c p first count r = (narrowed_meaning (narrowed_in r) ≡ narrowing c first count) × ((own_in r).pass ≡ p)
