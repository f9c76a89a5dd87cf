-- Cases of opening a view, computed: where 20 comes among the refusals, and what a sheet does to it.
--     views_hold
-- Assumes nothing.
use Prim.Native.Nat.{ℕ}
use mathlib.Core.Path.{◌≡◌, refl}
use mathlib.Core.List.{List, [], ◌∷◌, map}
use Rattle.format.specs.Outcome.{Outcome, Outcome.value, Outcome.refusal, ◌>>=◌}
use Rattle.format.specs.Varint.{spell, spell_in, scan, read_varint}
use Rattle.format.specs.Packing.{bytes_num, width, bit_length, bits_in}
use Rattle.format.specs.Stats.{read_head}
use Rattle.format.specs.Opening.{Loaded, open_bitpacked, open_linear, read_width, read_fields}
use Rattle.format.specs.Sheets.{ending, strict, under_sheet}
use Rattle.format.specs.Viewing.{view_blockwise, view_body, viewed, viewed_under}

-- a column's bytes under a sheet, and what is answered: its rows, or a refusal
pub record ViewCase : Type 0 where
  pub sheet : ℕ
  pub bytes : List ℕ
  pub said : Outcome ℕ

infix 10 ◌under◌gives◌
abbrev ◌under◌gives◌ : List ℕ → ℕ → Outcome ℕ → ViewCase
◌under◌gives◌ bytes sheet said = record { sheet = sheet; bytes = bytes; said = said }

abbrev pub view_cases : List ViewCase
view_cases =
    -- three rows of two bits, Bitpacked and Linear
    ((0x00 ∷ 0x8A ∷ 0x8A ∷ 0x82 ∷ 0x83 ∷ 0x18 ∷ []) under 1 gives value 3)
    ∷ ((0x01 ∷ 0x8A ∷ 0x8A ∷ 0x82 ∷ 0x83 ∷ 0x80 ∷ 0x8A ∷ 2 ∷ 0x18 ∷ []) under 2 gives value 3)
    -- a byte behind the area, under each sheet
    ∷ ((0x00 ∷ 0x8A ∷ 0x8A ∷ 0x82 ∷ 0x83 ∷ 0x18 ∷ 0 ∷ []) under 1 gives value 3)
    ∷ ((0x00 ∷ 0x8A ∷ 0x8A ∷ 0x82 ∷ 0x83 ∷ 0x18 ∷ 0 ∷ []) under 2 gives refusal 17 (6 ∷ []))
    -- no such sheet, before all else
    ∷ ([] under 0 gives refusal 18 [])
    ∷ ((0x02 ∷ 0x8A ∷ 0x8A ∷ 0x82 ∷ 0x83 ∷ 0 ∷ 0 ∷ 0 ∷ 0 ∷ []) under 3 gives refusal 18 [])
    -- the code byte and the head, before 20
    ∷ ([] under 1 gives refusal 5 [])
    ∷ ((0x03 ∷ []) under 1 gives refusal 5 [])
    ∷ ((0x02 ∷ 0x8A ∷ 0x80 ∷ 0x82 ∷ 0x83 ∷ 0 ∷ 0 ∷ 0 ∷ 0 ∷ []) under 1 gives refusal 7 [])
    -- the footer's 10, before 20: its length is not there, or is too great
    ∷ ((0x02 ∷ 0x8A ∷ 0x8A ∷ 0x82 ∷ 0x83 ∷ 0 ∷ 0 ∷ 0 ∷ []) under 1 gives refusal 10 [])
    ∷ ((0x02 ∷ 0x8A ∷ 0x8A ∷ 0x82 ∷ 0x83 ∷ 1 ∷ 0 ∷ 0 ∷ 0 ∷ []) under 1 gives refusal 10 [])
    -- 20: no rows; no field of a block there; more rows than any table has blocks for; a gap that offends sheet 2
    ∷ ((0x02 ∷ 0x80 ∷ 0x81 ∷ 0x80 ∷ 0x80 ∷ 0 ∷ 0 ∷ 0 ∷ 0 ∷ []) under 1 gives refusal 20 [])
    ∷ ((0x02 ∷ 0x8A ∷ 0x8A ∷ 0x82 ∷ 0x83 ∷ 0 ∷ 0 ∷ 0 ∷ 0 ∷ []) under 1 gives refusal 20 [])
    ∷ ((0x02 ∷ 0x8A ∷ 0x8A ∷ 0x82 ∷ 0x7F ∷ 0x7F ∷ 0x7F ∷ 0x7F ∷ 0x8F ∷ 0 ∷ 0 ∷ 0 ∷ 0 ∷ []) under 1 gives refusal 20 [])
    ∷ ((0x02 ∷ 0x80 ∷ 0x81 ∷ 0x80 ∷ 0x80 ∷ 9 ∷ 0 ∷ 0 ∷ 0 ∷ 0 ∷ []) under 2 gives refusal 20 [])
    ∷ []

pub views_hold : map (λ (c : ViewCase). viewed_under c.sheet c.bytes >>= (λ (o : Loaded). value o.column.window.rows)) view_cases ≡ map (λ (c : ViewCase). c.said) view_cases
unfolding under_sheet strict ending spell spell_in viewed view_body view_blockwise open_bitpacked open_linear read_head read_varint scan read_fields read_width bytes_num width bit_length bits_in
views_hold = refl
