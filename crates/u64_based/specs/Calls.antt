-- What each call promises: its answer, and the lent output before and after.
-- Assumes nothing.
use Rattle.format.specs.declared.Refusal.{Refusal}
use Rattle.format.specs.declared.ColumnStats.{ColumnStats}
use Rattle.std.specs.Prelude.{ℕ, ◌^◌, ◌≡◌, List, [], ◌∷◌, ltb, length, Option, Result, Ok, Err}
use Rattle.format.specs.declared.Kind.{Kind}
use Rattle.format.specs.Calls.{StoredAs}
use Rattle.format.specs.Outcome.{Outcome, Outcome.value, ◌>>◌, demand}
use Rattle.format.specs.Refusals.{numbered, answered_by}
use Rattle.format.specs.Stats.{stats_of, stated}
use Rattle.format.specs.Typed.{stored_as}
use Rattle.format.specs.Writing.{size_of, written}
use Rattle.u64_based.specs.declared.Sizes.{Sizes}

-- `column_stats`
abbrev pub StatsAs : (values : List ℕ) → Result ColumnStats Refusal → Type 0
StatsAs values r = answered_by r ≡ stated values

-- `column_stats_as`: of the numbers that values of a kind are stored as
abbrev pub KindStatsAs : Kind → (values : List ℕ) → Result ColumnStats Refusal → Type 0
KindStatsAs kind values r = StatsAs (stored_as kind values) r

-- what the choice compares of each codec, for fewer than 2^32 values; none where a codec does not apply
unfoldable pub sizes : List ℕ → Outcome (List (Option ℕ))
sizes vs =
    demand (ltb (length vs) (2 ^ 32)) 1 [] >> value (size_of 0 (stats_of vs) vs ∷ size_of 1 (stats_of vs) vs ∷ size_of 2 (stats_of vs) vs ∷ [])

-- what sizing found, by each codec
abbrev pub sizes_meaning : Result Sizes Refusal → Outcome (List (Option ℕ))
sizes_meaning (Ok s) = value (s.bitpacked ∷ s.linear ∷ s.blockwise ∷ [])
sizes_meaning (Err r) = numbered r

-- `sizes_as`
abbrev pub SizesAs : Kind → (values : List ℕ) → Result Sizes Refusal → Type 0
SizesAs kind values r = sizes_meaning r ≡ sizes (stored_as kind values)

-- `serialize`
abbrev pub WritesAs : (values codecs : List ℕ) → Result ℕ Refusal → (out out' : List ℕ) → Type 0
WritesAs values codecs r out out' = StoredAs (written values codecs (length out)) r out out'

-- `serialize_as`
abbrev pub KindWritesAs : Kind → (values codecs : List ℕ) → Result ℕ Refusal → (out out' : List ℕ) → Type 0
KindWritesAs kind values codecs r out out' = WritesAs (stored_as kind values) codecs r out out'
