-- Lists whose numbers were made into the values of rows, in place.
-- Assumes nothing.
use Rattle.std.specs.Prelude.{◌≡◌, List, [], ◌∷◌, ℕ, ◌+◌, ◌≤◌, ◌<◌, leb, length, get_or}
use Rattle.format.specs.declared.Line.{Line}
use Rattle.format.specs.Line.{line_at}
use Rattle.format.specs.Outcome.{Outcome, Outcome.value, ◌>>◌, demand}
use Rattle.format.specs.Runs.{read_run, filled_to}
use Rattle.format.specs.Word.{mod_add, mod_sub}

-- ---- heights

-- entry i of a list with number v has height `height i v`, and became the value that lies so much above a minimum
pub record Raised (height : ℕ → ℕ → ℕ) (minimum : ℕ) (before after : List ℕ) : Type 0 where
  pub raised : (i : ℕ) → i < length before → get_or after i 0 ≡ mod_add minimum (height i (get_or before i 0))

-- no height is above a limit
pub record Within (height : ℕ → ℕ → ℕ) (limit : ℕ) (before : List ℕ) : Type 0 where
  pub within : (i : ℕ) → i < length before → height i (get_or before i 0) ≤ limit

-- a number as its own height
abbrev pub itself : (i v : ℕ) → ℕ
itself i v = v

-- how far a line and a number lie above some number
abbrev pub above_line : Line → (from low i v : ℕ) → ℕ
above_line l from low i v = mod_sub (mod_add (line_at l (from + i)) v) low

-- ---- rows

-- the value that lies so much above a minimum, which a row has if that is within a limit
abbrev pub reached : (minimum limit r height : ℕ) → Outcome ℕ
reached minimum limit r height = demand (leb height limit) 14 (r ∷ []) >> value (mod_add minimum height)

-- a value, which a row has if it lies no more than a span above low
abbrev pub near : (low span r v : ℕ) → Outcome ℕ
near low span r v = demand (leb (mod_sub v low) span) 14 (r ∷ []) >> value v

-- the rows from `first` on read as a rule makes them of the entries of a list, by their places
pub record ReadBy (rule : (i r v : ℕ) → Outcome ℕ) (read : ℕ → Outcome ℕ) (first : ℕ) (list : List ℕ) : Type 0 where
  pub each : (i : ℕ) → i < length list → read (first + i) ≡ rule i (first + i) (get_or list i 0)

-- the entries of a list became the values of the rows that a rule makes of them, n of them, up to the first row that is refused
abbrev pub Fills : (rule : (i r v : ℕ) → Outcome ℕ) (before : List ℕ) (n : ℕ) (after : List ℕ) → Type 0
Fills rule before n after = (read : ℕ → Outcome ℕ) (first : ℕ) → ReadBy rule read first before → filled_to n first after ≡ read_run read first (length before)
