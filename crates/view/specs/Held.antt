-- What a view holds, from the answer of an opening.
-- Assumes nothing.
use Rattle.std.specs.Prelude.{[], eqb, Option, ℕ}
use Rattle.format.specs.declared.Codec.{Codec}
use Rattle.format.specs.declared.Codec.TheVariants.{Bitpacked, Linear, Blockwise}
use Rattle.format.specs.declared.Column.{Column}
use Rattle.format.specs.Outcome.{Outcome, Outcome.value, Outcome.refusal, pick}

-- a column, unless it is Blockwise
abbrev pub unless_blockwise : Codec → Column × Option ℕ → Outcome (Column × Option ℕ)
unless_blockwise Bitpacked x = value x
unless_blockwise (Linear l w) x = value x
unless_blockwise Blockwise x = refusal 20 []

-- an opening with no room for a block, for a view: 20 in 11's place, and for what opens without blocks
abbrev pub for_view : Outcome (Column × Option ℕ) → Outcome (Column × Option ℕ)
for_view (value x) = unless_blockwise x.0.codec x
for_view (refusal number also) = pick (eqb number 11) (refusal 20 []) (refusal number also)

-- a column of no rows
abbrev pub no_column : Column
no_column = record { minimum = 0; gcd = 0; count = 0; rows = 0; start = 0; size = 0; window = record { first = 0; rows = 0 }; codec = Bitpacked }

-- the column that is left to a view
abbrev pub column_or : Outcome (Column × Option ℕ) → Column
column_or (value x) = x.0
column_or (refusal number also) = no_column
