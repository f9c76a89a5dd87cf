-- Rows gathered over the values that they belong to.
-- Assumes nothing.
use Rattle.std.specs.Prelude.{ℕ, ◌+◌, ◌≤◌, ◌<◌, ◌≡◌, Bool, false, List, ◌++◌, length, take, drop, get_or}
use Rattle.read_chunk.specs.Rows.{rows_among}

-- none of the values from one place up to another passes a test
abbrev pub Bare : (test : ℕ → Bool) (from to : ℕ) (values : List ℕ) → Type 0
Bare test from to values = (j : ℕ) → from ≤ j → j < to → test (get_or values j 0) ≡ false

-- the first n entries of a list are the rows passed so far that pass the test, and the values not read yet are as they were
pub record Gathering (test : ℕ → Bool) (values : List ℕ) (row : ℕ) (list : List ℕ) (n i : ℕ) : Type 0 where
  pub small : n ≤ i
  pub most : i ≤ length values
  pub long : length list ≡ length values
  pub unread : (j : ℕ) → i ≤ j → get_or list j 0 ≡ get_or values j 0
  pub rest : take n list ++ rows_among test (row + i) (drop i values) ≡ rows_among test row values

-- gathering went on from one place to another, whatever the values were
abbrev pub Gathers : (test : ℕ → Bool) (row n from m to : ℕ) (old new : List ℕ) → Type 0
Gathers test row n from m to old new = (values : List ℕ) → Gathering test values row old n from → Gathering test values row new m to
