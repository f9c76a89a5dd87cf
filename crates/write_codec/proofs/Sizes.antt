-- The sizes as they are worked out are those that the choice goes by.
--     sized_0, sized_1, unsized_1, unsized_stored, sized_2
--                                               a codec with its size, or Linear where it does not apply
--     needed_0, needed_1, needed_2              the length that a column needs, from the length of its body
--     bodies                                    the bodies of values by their own statistics
-- Assumes nothing.
use Rattle.std.specs.Prelude.{Some, None}
use Prim.Native.Nat.{ℕ, suc, ◌+◌, ◌*◌, ◌≤◌, ◌<◌}
use mathlib.Core.Path.{◌≡◌, ap}
use mathlib.Core.List.{List, map}
use native.Mathlib.Omega.{arith}
use borrow.Author.Tests.{lt-ltb, le-ltb}
use lib.ListN.{length}
use Rattle.format.specs.declared.Codec.TheVariants.{Bitpacked, Linear, Blockwise}
use Rattle.format.specs.declared.ColumnStats.{ColumnStats}
use Rattle.format.specs.declared.Kind.{Kind}
use Rattle.format.specs.Word.{bytes_for}
use Rattle.format.specs.Packing.{width}
use Rattle.format.specs.Stats.{stats_of, count_of, spell_head}
use Rattle.format.specs.Line.{spell_line}
use Rattle.format.specs.Bodies.{normalised, bitpacked, linear, blockwise, body}
use Rattle.format.specs.Writing.{sized, size_of}
use Rattle.format.specs.Typed.{stored_as}
use Rattle.format.proofs.StoredLists.{stored-length}
use Rattle.stats.specs.Asked.{Describes}
use Rattle.bitpacked_estimator.proofs.Body as packed
use Rattle.linear_estimator.specs.declared.Fit.{Fit}
use Rattle.linear_estimator.specs.Writer.{Fits}
use Rattle.linear_estimator.proofs.Body as lined
use Rattle.blockwise_estimator.specs.declared.Sizes.{Sizes}
use Rattle.blockwise_estimator.specs.Writer.{Takes}
use Rattle.blockwise_estimator.proofs.Body as blocked
use Rattle.write_codec.specs.Choice.{Stands, sized_by}
use Rattle.write_codec.proofs.Choosing.{third}

module _ (s : ColumnStats) (vs : List ℕ) where
  pub sized_0 : (code n : ℕ) → code ≡ 0 → n ≡ length (spell_head s) + bytes_for (width (count_of s) * s.rows) → Stands vs (sized_by s vs code) (Some (record { codec = Bitpacked; size = n }))
  unfolding size_of
  sized_0 code n is e = record { means = rw (is, e); apt = tt }

  pub unsized_1 : length vs < 512 → Stands vs (sized_by s vs 1) None
  unfolding size_of
  unsized_1 h = record { means = rw (lt-ltb (length vs) 512 h); apt = tt }

  pub sized_1 : {fit : Fit} (n : ℕ) → 512 ≤ length vs → Fits vs fit → n ≡ length (spell_head s) + length (spell_line fit.line) + 1 + bytes_for (fit.bits * s.rows)
      → Stands vs (sized_by s vs 1) (Some (record { codec = Linear fit.line fit.bits; size = n }))
  unfolding size_of
  sized_1 n h f e = record { means = rw (le-ltb (length vs) 512 h, ← f.line, ← f.bits, e); apt = f }

  pub sized_2 : (code n : ℕ) → (code ≡ 0 → ⊥) → (code ≡ 1 → ⊥) → code ≤ 2 → Some n ≡ size_of 2 s vs → Stands vs (sized_by s vs code) (Some (record { codec = Blockwise; size = n }))
  sized_2 code n not_0 not_1 h e = rw (third code not_0 not_1 h) (record { means = ap (sized 2) e; apt = tt })

-- the same of values of a kind
pub unsized_stored : (s : ColumnStats) (k : Kind) (ws : List ℕ) → length ws < 512 → Stands (stored_as k ws) (sized_by s (stored_as k ws) 1) None
unsized_stored s k ws h = unsized_1 s (stored_as k ws) (rw (stored-length k ws) h)

-- ---- the length that a column needs

-- as many rows as values
rows_are : {s : ColumnStats} {vs : List ℕ} → Describes s vs → s.rows ≡ length vs
unfolding stats_of
rows_are d = ap (λ (s : ColumnStats). s.rows) d.stats

module _ {s : ColumnStats} {vs : List ℕ} (d : Describes s vs) where
  pub needed_0 : {n : ℕ} → n ≡ length (spell_head s) + bytes_for (width (count_of s) * s.rows) → 1 + n ≡ suc (length (bitpacked s vs))
  needed_0 e = omega (arith, packed.body-length d, ap (λ (n : ℕ). width (count_of s) * n) (rows_are d))

  pub needed_1 : {fit : Fit} {n : ℕ} → Fits vs fit → n ≡ length (spell_head s) + length (spell_line fit.line) + 1 + bytes_for (fit.bits * s.rows)
      → 1 + n ≡ suc (length (linear s vs))
  needed_1 {fit} f e = omega (arith, lined.body-length f s, ap (λ (n : ℕ). fit.bits * n) (rows_are d))

  pub needed_2 : {sizes : Sizes} {n : ℕ} → Takes (map (normalised s) vs) sizes → n ≡ length (spell_head s) + (sizes.area + sizes.footer) + 4
      → 1 + n ≡ suc (length (blockwise s vs))
  needed_2 t e = omega (arith, blocked.body_takes s vs t)

  pub bodies : (body 0 (stats_of vs) vs ≡ bitpacked s vs) × (body 1 (stats_of vs) vs ≡ linear s vs) × (body 2 (stats_of vs) vs ≡ blockwise s vs)
  unfolding body
  bodies = (rw d.stats, rw d.stats, rw d.stats)
