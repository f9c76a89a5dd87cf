use Prim.Native.Nat.{ℕ, ◌+◌, ◌^◌}
use mathlib.Core.Path.{◌≡◌}
use Rattle.format.specs.Word.{mod_add, mod_mul}
use Rattle.format.specs.declared.Line.{Line}
use Rattle.raising.specs.Raising.{above_line}
use Rattle.raising.proofs.Raises.{Raising}
use Rattle.raising.proofs.lift_by_line.Given as goal

abbrev pub by : (slope intercept : ℕ) → Line
by slope intercept = record { slope = slope; intercept = intercept }

abbrev pub invariant-loop-value : goal.invariant-loop-value
invariant-loop-value l = Raising (above_line (by l.slope l.intercept) l.from l.low) l.minimum l.limit l.initial.values l.values l.seen l.value-index × (l.product ≡ mod_add (mod_mul (l.from + l.value-index) l.slope) (2 ^ 63))
