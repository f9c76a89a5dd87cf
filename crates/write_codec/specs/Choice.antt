-- What the parts of the choice mean, and what they ask of one another.
-- Assumes nothing.
use Rattle.std.specs.Prelude.{ℕ, zero, suc, ◌≡◌, Bool, true, false, List, [], ◌∷◌, Option, Some, None}
use Rattle.format.specs.declared.Codec.{Codec}
use Rattle.format.specs.declared.Codec.TheVariants.{Bitpacked, Linear, Blockwise}
use Rattle.format.specs.declared.ColumnStats.{ColumnStats}
use Rattle.format.specs.Outcome.{Outcome, Outcome.value, Outcome.refusal}
use Rattle.format.specs.Listing.{code_of}
use Rattle.format.specs.Writing.{Sized, sized, size_of, smaller}
use Rattle.linear_estimator.specs.Writer.{Fits}
use Rattle.write_codec.specs.declared.choice.Best.{Best}
use Rattle.write_codec.specs.declared.choice.Met.{Met}
use Rattle.write_codec.specs.declared.choice.Walk.{Walk}

-- what the search for an unknown byte found
abbrev pub place_meaning : Option ℕ → Outcome (Unit {0})
place_meaning (Some i) = refusal 2 (i ∷ [])
place_meaning None = value tt

-- the best of some codecs
abbrev pub best_meaning : Option Best → Option Sized
best_meaning None = None
best_meaning (Some b) = Some (record { codec = code_of b.codec; size = b.size })

-- a codec's own numbers are those that some values are written by
abbrev pub AptCodec : List ℕ → Codec → Type 0
AptCodec vs Bitpacked = Unit {0}
AptCodec vs (Linear line bits) = Fits vs (record { line = line; bits = bits })
AptCodec vs Blockwise = Unit {0}

-- the same of the best codec, if there is one
abbrev pub Apt : List ℕ → Option Best → Type 0
Apt vs None = Unit {0}
Apt vs (Some b) = AptCodec vs b.codec

-- an answer is what was to be found, and can be written by
pub record Stands (vs : List ℕ) (found : Option Sized) (b : Option Best) : Type 0 where
  pub means : best_meaning b ≡ found
  pub apt : Apt vs b

-- the codec of a choice; none is refused
abbrev pub choice_meaning : Option Codec → Outcome ℕ
choice_meaning None = refusal 3 []
choice_meaning (Some codec) = value (code_of codec)

-- it can be written by, if there is one
abbrev pub AptChoice : List ℕ → Option Codec → Type 0
AptChoice vs None = Unit {0}
AptChoice vs (Some codec) = AptCodec vs codec

-- an answer names the codec that was to be found, and it can be written by
pub record Names (vs : List ℕ) (found : Outcome ℕ) (c : Option Codec) : Type 0 where
  pub means : choice_meaning c ≡ found
  pub apt : AptChoice vs c

-- a listed codec with its size
abbrev pub sized_by : ColumnStats → List ℕ → (code : ℕ) → Option Sized
sized_by s vs code = sized code (size_of code s vs)

-- whether a codec was met
abbrev pub met_in : Met → (code : ℕ) → Bool
met_in m zero = m.bitpacked
met_in m (suc zero) = m.linear
met_in m (suc (suc zero)) = m.blockwise
met_in m (suc (suc (suc c))) = false

-- with one codec more
abbrev pub marking : Met → (code : ℕ) → Met
marking m zero = record { bitpacked = true; linear = m.linear; blockwise = m.blockwise }
marking m (suc zero) = record { bitpacked = m.bitpacked; linear = true; blockwise = m.blockwise }
marking m (suc (suc c)) = record { bitpacked = m.bitpacked; linear = m.linear; blockwise = true }

-- where a walk stands: no codec that it has met beats its best
pub record Walked (s : ColumnStats) (vs : List ℕ) (w : Walk) : Type 0 where
  pub apt : Apt vs w.best
  pub beats : (c : ℕ) → met_in w.met c ≡ true → smaller (best_meaning w.best) (sized_by s vs c) ≡ best_meaning w.best
