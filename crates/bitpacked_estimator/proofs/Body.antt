-- Laws of a Bitpacked body.
--     body-length       the head's bytes, and those that the packed rows fill
--     area_room         behind the head there is room for the area
--     area_packable     the normalised values can be packed where there is
--     body_wrote        the head, and the area behind it
-- Assumes nothing.
use mathlib.Core.Path.{◌≡◌, ap, ◌∙◌}
use mathlib.Core.List.{List, map}
use Prim.Native.Nat.{ℕ, ◌+◌, ◌*◌, ◌≤◌}
use native.Mathlib.Omega.{arith}
use lib.ListN.{length, length-append}
use Rattle.format.specs.declared.ColumnStats.{ColumnStats}
use Rattle.format.specs.Outcome.{Wrote}
use Rattle.format.specs.Word.{bytes_for}
use Rattle.format.specs.Packing.{width, packed}
use Rattle.format.specs.Stats.{count_of, spell_head}
use Rattle.format.specs.Bodies.{normalised, bitpacked}
use Rattle.format.proofs.Lists.{map_at}
use Rattle.format.proofs.Widths.{width_most}
use Rattle.format.proofs.Stores.{wrote_then}
use Rattle.bitpacker.specs.Packer.{Packable}
use Rattle.bitpacker.proofs.PackerLaws.{packed_count}
use Rattle.stats.specs.Asked.{Describes}
use Rattle.stats.proofs.Described.{step_fits, steps_length}

module _ {s : ColumnStats} {vs : List ℕ} (d : Describes s vs) where
  pub body-length : length (bitpacked s vs) ≡ length (spell_head s) + bytes_for (width (count_of s) * length vs)
  unfolding bitpacked
  body-length =
      length-append (spell_head s) (packed (width (count_of s)) (map (normalised s) vs))
      ∙ ap (λ (n : ℕ). length (spell_head s) + n) (packed_count (width (count_of s)) (map (normalised s) vs) (length vs) (steps_length d))

  pub area_room : {w start : ℕ} (at : ℕ) (out : List ℕ) → w ≡ width (count_of s) → at + length (bitpacked s vs) ≤ length out → start ≡ at + length (spell_head s)
      → start + bytes_for (w * length vs) ≤ length out
  area_room at out is room e = rw is (omega (arith, body-length))

  pub area_packable : {w : ℕ} (out : List ℕ) → w ≡ width (count_of s) → bytes_for (w * length vs) ≤ length out → Packable w (map (normalised s) vs) out
  area_packable {w} out is room =
      record {
        most = rw is (width_most (count_of s));
        fits =
            λ i h.
            let inside = rw (steps_length d) at h in
            rw (map_at (normalised s) vs i inside, is) (step_fits d i inside);
        room = rw (steps_length d) room;
      }

-- the head, and the area behind it
pub body_wrote : (s : ColumnStats) (vs : List ℕ) {o l n : List ℕ} {at i k w : ℕ} → w ≡ width (count_of s)
    → Wrote o at (spell_head s) l i → Wrote l i (packed w (map (normalised s) vs)) n k → Wrote o at (bitpacked s vs) n k
unfolding bitpacked
body_wrote s vs is head area = wrote_then head (rw is at area)
