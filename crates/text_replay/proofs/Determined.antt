-- What `report` promises determines what it answers and what every lent entry holds afterwards.
-- Assumes nothing.
use Prim.Native.Nat.{ℕ}
use mathlib.Core.Path.{◌≡◌, sym, ◌∙◌}
use mathlib.Core.List.{List}
use Rattle.text_replay.specs.Report.{ReportedAs}

pub report_determined : (s recording line : List ℕ) (n m : ℕ) (new new' : List ℕ) → ReportedAs s recording n line new → ReportedAs s recording m line new' → (n ≡ m) × (new ≡ new')
report_determined s recording line n m new new' p q = (p.0.ends ∙ sym q.0.ends, p.0.list ∙ sym q.0.list)
