-- Kinds of values by their numbers.
-- Assumes nothing.
use Rattle.format.specs.declared.Refusal.{Refusal}
use Rattle.std.specs.Prelude.{ℕ, zero, suc, [], Result, Ok, Err}
use Rattle.format.specs.declared.Kind.{Kind}
use Rattle.format.specs.declared.Kind.TheVariants.{U64, I64, Date, Bool as Flag, F64}
use Rattle.format.specs.Outcome.{Outcome, Outcome.value, Outcome.refusal}

-- the kind of a number; no other number is one
unfoldable pub kind_from : ℕ → Outcome Kind
kind_from zero = value U64
kind_from (suc zero) = value I64
kind_from (suc (suc zero)) = value Date
kind_from (suc (suc (suc zero))) = value Flag
kind_from (suc (suc (suc (suc zero)))) = value F64
kind_from (suc (suc (suc (suc (suc n))))) = refusal 13 []

-- the kind that a number is, else plain numbers
abbrev pub kind_of : Result Kind Refusal → Kind
kind_of (Ok k) = k
kind_of (Err r) = U64

-- a sheet, where a number is a kind, else the number 0, which names none
abbrev pub sheet_of : Result Kind Refusal → (sheet : ℕ) → ℕ
sheet_of (Ok k) sheet = sheet
sheet_of (Err r) sheet = 0
