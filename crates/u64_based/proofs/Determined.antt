-- What the entry points promise determines what they answer and what every lent entry holds afterwards: two results that it allows coincide.
--     stats_determined, serialize_determined, stats_as_determined, sizes_as_determined, serialize_as_determined
-- Assumes nothing.
use Rattle.format.specs.declared.Refusal.{Refusal}
use Rattle.format.specs.declared.ColumnStats.{ColumnStats}
use Rattle.std.specs.Prelude.{Option, Result, Ok, Err}
use Prim.Native.Nat.{ℕ}
use mathlib.Core.Path.{◌≡◌, sym, ap, ◌∙◌}
use mathlib.Core.List.{List}
use Rattle.format.specs.declared.Kind.{Kind}
use Rattle.format.specs.Typed.{stored_as}
use Rattle.format.proofs.Answers.{numbered_injective, answered_injective}
use Rattle.u64_based.specs.declared.Sizes.{Sizes}
use Rattle.u64_based.specs.Calls.{StatsAs, KindStatsAs, SizesAs, WritesAs, KindWritesAs, sizes_meaning}

-- two answers of `column_stats`
pub stats_determined : (values : List ℕ) (a b : Result ColumnStats Refusal) → StatsAs values a → StatsAs values b → a ≡ b
stats_determined values a b p q = answered_injective a b (p ∙ sym q)

-- two answers of `serialize`, and what the lent output holds afterwards
pub serialize_determined : (values codecs out : List ℕ) (a b : Result ℕ Refusal) (after after' : List ℕ)
    → WritesAs values codecs a out after → WritesAs values codecs b out after' → (a ≡ b) × (after ≡ after')
serialize_determined values codecs out a b after after' p q = (answered_injective a b (p.answer ∙ sym q.answer), p.list ∙ sym q.list)

-- the same of values of a kind
pub stats_as_determined : (kind : Kind) (values : List ℕ) (a b : Result ColumnStats Refusal) → KindStatsAs kind values a → KindStatsAs kind values b → a ≡ b
stats_as_determined kind values = stats_determined (stored_as kind values)

same_sizes : {a b c d e f : Option ℕ} → a ≡ d → b ≡ e → c ≡ f
    → ◌≡◌ {A = Sizes} (record { bitpacked = a; linear = b; blockwise = c }) (record { bitpacked = d; linear = e; blockwise = f })
same_sizes p q r = rw (p, q, r)

-- two answers that mean the same are one
sizes_injective : (a b : Result Sizes Refusal) → sizes_meaning a ≡ sizes_meaning b → a ≡ b
sizes_injective (Ok a) (Ok b) e =
    let bitpacked : a.bitpacked ≡ b.bitpacked = cc in
    let linear : a.linear ≡ b.linear = cc in
    let blockwise : a.blockwise ≡ b.blockwise = cc in
    ap Ok (same_sizes bitpacked linear blockwise)
sizes_injective (Ok a) (Err q) e = cc
sizes_injective (Err r) (Ok b) e = cc
sizes_injective (Err r) (Err q) e = ap Err (numbered_injective r q e)

-- two answers of `sizes_as`
pub sizes_as_determined : (kind : Kind) (values : List ℕ) (a b : Result Sizes Refusal) → SizesAs kind values a → SizesAs kind values b → a ≡ b
sizes_as_determined kind values a b p q = sizes_injective a b (p ∙ sym q)

pub serialize_as_determined : (kind : Kind) (values codecs out : List ℕ) (a b : Result ℕ Refusal) (after after' : List ℕ)
    → KindWritesAs kind values codecs a out after → KindWritesAs kind values codecs b out after' → (a ≡ b) × (after ≡ after')
serialize_as_determined kind values = serialize_determined (stored_as kind values)
