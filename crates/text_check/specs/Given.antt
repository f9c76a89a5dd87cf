-- What the program is given: the sheet as text, and a file of values.
-- Assumes nothing.
use Rattle.format.specs.declared.Refusal.{Refusal}
use Rattle.std.specs.Prelude.{ℕ, zero, suc, ◌/◌, ◌%◌, ◌≡◌, List, [], ◌∷◌, leb, eqb, length, take, drop, get_or, Result}
use Rattle.format.specs.Outcome.{Outcome, Outcome.value, ◌>>◌, demand, pick, how_many, stored}
use Rattle.format.specs.Packing.{bytes_num}
use Rattle.format.specs.Refusals.{answered_by}

-- the sheet of a digit, 1 or 2; any other character is 0, which is no sheet
abbrev pub digit_sheet : ℕ → ℕ
digit_sheet c = pick (eqb c 49) 1 (pick (eqb c 50) 2 0)

-- the sheet that a text names: one digit
unfoldable pub sheet_from : (text : List ℕ) → ℕ
sheet_from text = pick (eqb (length text) 1) (digit_sheet (get_or text 0 0)) 0

-- n numbers of 64 bits off the front of some bytes, little end first
unfoldable pub words : (n : ℕ) (s : List ℕ) → List ℕ
words zero s = []
words (suc n) s = bytes_num (take 8 s) ∷ words n (drop 8 s)

-- the values of a file, at most 65,536: 16 for more bytes, then 13 where the last value is cut off
unfoldable pub values_in : (file : List ℕ) → Outcome (List ℕ)
values_in file = do
  demand (leb (length file) 524288) 16 []
  demand (eqb (length file % 8) 0) 13 []
  value (words (length file / 8) file)

-- taking the values of a file into a list
pub record TakenAs (file : List ℕ) (r : Result ℕ Refusal) (before after : List ℕ) : Type 0 where
  pub answer : answered_by r ≡ how_many (values_in file)
  pub list : after ≡ stored (values_in file) before
