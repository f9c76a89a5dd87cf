-- What `judge` promises determines what it answers and what every lent entry holds afterwards.
-- Assumes nothing.
use Prim.Native.Nat.{ℕ}
use mathlib.Core.Path.{◌≡◌, sym, ◌∙◌}
use mathlib.Core.List.{List}
use Rattle.text_check.specs.Verdicts.{JudgesAs}

pub judge_determined : (text s file values line : List ℕ) (n m : ℕ) (after after' new new' : List ℕ)
    → JudgesAs text s file n values after line new → JudgesAs text s file m values after' line new' → (n ≡ m) × (after ≡ after') × (new ≡ new')
judge_determined text s file values line n m after after' new new' p q =
    (p.0.line.ends ∙ sym q.0.line.ends, p.0.values ∙ sym q.0.values, p.0.line.list ∙ sym q.0.line.list)
