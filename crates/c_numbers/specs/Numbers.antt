-- Answers as plain numbers: what a C or a Rust caller hands over and finds.
-- Assumes nothing.
use Rattle.format.specs.declared.Refusal.{Refusal}
use Rattle.std.specs.Prelude.{ℕ, zero, suc, ◌-◌, ◌^◌, ◌≡◌, Bool, ◌&&◌, List, [], ◌∷◌, ◌++◌, ltb, get_or, Option, Some, None, Result, Ok, Err}
use Rattle.format.specs.declared.Codec.{Codec}
use Rattle.format.specs.declared.Codec.TheVariants.{Bitpacked, Linear, Blockwise}
use Rattle.format.specs.declared.Column.{Column}
use Rattle.format.specs.declared.ColumnStats.{ColumnStats}
use Rattle.format.specs.Listing.{code_of}
use Rattle.format.specs.Outcome.{Outcome, Outcome.value, Outcome.refusal, ◌>>=◌, ◌>>◌, demand}

-- ---- refusals

-- what is found where something before it was not refused
abbrev pub after : {A B : Type 0} → Outcome A → Outcome B → Outcome B
after o next = o >>= (λ _. next)

-- the two numbers of a refusal: its own, and the value that it also returns, else 0; both are 0 where nothing is refused
abbrev pub told : {A : Type 0} → Outcome A → List ℕ
told (value a) = 0 ∷ 0 ∷ []
told (refusal number also) = number ∷ get_or also 0 0 ∷ []

-- the number that was found, 0 on refusal
abbrev pub or_zero : Outcome ℕ → ℕ
or_zero (value n) = n
or_zero (refusal number also) = 0

-- the offset of the first longer spelling, 2^64 - 1 where there is none
abbrev pub offset_of : Option ℕ → ℕ
offset_of None = 2 ^ 64 - 1
offset_of (Some offset) = offset

-- the same of what was opened, 2^64 - 1 on refusal too
abbrev pub longer_in : Outcome (Column × (Option ℕ)) → ℕ
longer_in (value a) = offset_of a.1
longer_in (refusal number also) = 2 ^ 64 - 1

-- ---- statistics and columns

-- the four numbers of statistics
abbrev pub stats_numbers : ColumnStats → List ℕ
stats_numbers s = s.minimum ∷ s.maximum ∷ s.gcd ∷ s.rows ∷ []

-- a codec's own three numbers: slope, intercept and width of a Linear one
abbrev pub own_numbers : Codec → List ℕ
own_numbers Bitpacked = 0 ∷ 0 ∷ 0 ∷ []
own_numbers (Linear l w) = l.slope ∷ l.intercept ∷ w ∷ []
own_numbers Blockwise = 0 ∷ 0 ∷ 0 ∷ []

-- the twelve numbers of an opened column: the last two are its window's
abbrev pub column_numbers : Column → List ℕ
column_numbers c =
    code_of c.codec ∷ c.minimum ∷ c.gcd ∷ c.count ∷ c.rows ∷ c.start ∷ c.size ∷ (own_numbers c.codec ++ (c.window.first ∷ c.window.rows ∷ []))

-- the column of twelve numbers, with its codec
abbrev pub column_with : List ℕ → Codec → Column
column_with ns codec =
    record {
      minimum = get_or ns 1 0;
      gcd = get_or ns 2 0;
      count = get_or ns 3 0;
      rows = get_or ns 4 0;
      start = get_or ns 5 0;
      size = get_or ns 6 0;
      window = record { first = get_or ns 10 0; rows = get_or ns 11 0 };
      codec = codec;
    }

-- the codec of a number, with its own three; a width is a byte, and no other number is a codec
unfoldable pub codec_from : (code slope intercept bits : ℕ) → Outcome Codec
codec_from zero slope intercept bits = value Bitpacked
codec_from (suc zero) slope intercept bits =
    demand (ltb bits (2 ^ 8)) 13 [] >> value (Linear (record { slope = slope; intercept = intercept }) bits)
codec_from (suc (suc zero)) slope intercept bits = value Blockwise
codec_from (suc (suc (suc code))) slope intercept bits = refusal 13 []

-- whether the counts of rows in twelve numbers, the column's and its window's two, are below 2^32
abbrev pub counts_fit : List ℕ → Bool
counts_fit ns = ltb (get_or ns 4 0) (2 ^ 32) && ltb (get_or ns 10 0) (2 ^ 32) && ltb (get_or ns 11 0) (2 ^ 32)

-- the column of twelve numbers, if they are one
unfoldable pub column_from : List ℕ → Outcome Column
column_from ns = do
  demand (counts_fit ns) 13 []
  codec ← codec_from (get_or ns 0 0) (get_or ns 7 0) (get_or ns 8 0) (get_or ns 9 0)
  value (column_with ns codec)

-- a column of no rows
abbrev pub no_column : Column
no_column = column_with [] Bitpacked

-- the column that twelve numbers are, else the one of no rows
abbrev pub column_of : Result Column Refusal → Column
column_of (Ok c) = c
column_of (Err r) = no_column

-- ---- what a call leaves

-- a lent array afterwards: the numbers that were found; a refusal changes nothing
abbrev pub filled : Outcome (List ℕ) → (old : List ℕ) → List ℕ
filled (value ns) old = ns
filled (refusal number also) old = old

-- the result of a call and the two numbers of its refusal are those of one outcome
pub record Answers (outcome : Outcome ℕ) (result : ℕ) (refusal : List ℕ) : Type 0 where
  pub result_is : result ≡ or_zero outcome
  pub refusal_is : refusal ≡ told outcome

-- an opened column: the offset of its longer spelling, the numbers of its refusal and its own
pub record Describes (outcome : Outcome (Column × (Option ℕ))) (result : ℕ) (refusal column column' : List ℕ) : Type 0 where
  pub result_is : result ≡ longer_in outcome
  pub refusal_is : refusal ≡ told outcome
  pub column_is : column' ≡ filled (outcome >>= (λ (a : Column × (Option ℕ)). value (column_numbers a.0))) column

-- a narrowing: the numbers of its refusal and of its column
pub record Narrows (outcome : Outcome Column) (refusal column column' : List ℕ) : Type 0 where
  pub refusal_is : refusal ≡ told outcome
  pub column_is : column' ≡ filled (outcome >>= (λ (c : Column). value (column_numbers c))) column

-- statistics: the numbers of their refusal, and their own
pub record States (outcome : Outcome ColumnStats) (refusal stats stats' : List ℕ) : Type 0 where
  pub refusal_is : refusal ≡ told outcome
  pub stats_are : stats' ≡ filled (outcome >>= (λ (s : ColumnStats). value (stats_numbers s))) stats
