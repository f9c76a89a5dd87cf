-- Where opening stops, computed: each part at which it can, by each number, and columns that open.
--     heads_stop, linears_stop, footers_stop
-- Assumes nothing.
use Rattle.std.specs.Prelude.{Option, Some, None}
use Prim.Native.Nat.{ℕ}
use mathlib.Core.Path.{◌≡◌, refl}
use mathlib.Core.List.{[], ◌∷◌, map}
use Rattle.format.specs.declared.PartName.{PartName}
use Rattle.format.specs.declared.PartName.TheVariants.{Code, Minimum, Gcd, Count, Rows, Slope, Intercept, Width, Area, BlockSlope, BlockIntercept, BlockWidth, FooterLength}
use Rattle.format.specs.declared.Stop.{Stop}
use Rattle.format.specs.Varint.{scan, read_varint}
use Rattle.format.specs.Packing.{bytes_num, width, bit_length, bits_in}
use Rattle.format.specs.Opening.{read_width}
use Rattle.format.specs.Stops.{reach_head, reach_fields, reach_blocks, reach_body, reach, stop_of}

-- a stop by its three numbers
abbrev at : (number : ℕ) → PartName → (first : ℕ) → Option Stop
at n name first = Some (record { number = n; name = name; first = first })

-- Bitpacked, field after field; the last opens
heads_stop : map stop_of
    ([]
    ∷ (0x03 ∷ [])
    ∷ (0x00 ∷ [])
    ∷ (0x00 ∷ 0x8A ∷ 0x00 ∷ [])
    ∷ (0x00 ∷ 0x8A ∷ 0x80 ∷ [])
    ∷ (0x00 ∷ 0x8A ∷ 0x8A ∷ [])
    ∷ (0x00 ∷ 0x8A ∷ 0x8A ∷ 0x7F ∷ 0x7F ∷ 0x7F ∷ 0x7F ∷ 0x7F ∷ 0x7F ∷ 0x7F ∷ 0x7F ∷ 0x7F ∷ 0x81 ∷ [])
    ∷ (0x00 ∷ 0x8A ∷ 0x8A ∷ 0x82 ∷ [])
    ∷ (0x00 ∷ 0x8A ∷ 0x8A ∷ 0x82 ∷ 0x00 ∷ 0x00 ∷ 0x00 ∷ 0x00 ∷ 0x90 ∷ [])
    ∷ (0x00 ∷ 0x8A ∷ 0x8A ∷ 0x82 ∷ 0x83 ∷ [])
    ∷ (0x00 ∷ 0x8A ∷ 0x8A ∷ 0x82 ∷ 0x83 ∷ 0x18 ∷ [])
    ∷ [])
    ≡ at 5 Code 0 ∷ at 5 Code 0 ∷ at 6 Minimum 1 ∷ at 6 Gcd 2 ∷ at 7 Gcd 2 ∷ at 6 Count 3 ∷ at 8 Count 3 ∷ at 6 Rows 4 ∷ at 8 Rows 4 ∷ at 10 Area 5 ∷ None ∷ []
unfolding reach reach_head reach_body read_varint scan width bit_length bits_in
heads_stop = refl

-- Linear, behind the head of a row 7
linears_stop : map (λ body. stop_of (0x01 ∷ 0x87 ∷ 0x81 ∷ 0x80 ∷ 0x81 ∷ body))
    ([] ∷ (0x80 ∷ []) ∷ (0x80 ∷ 0x87 ∷ []) ∷ (0x80 ∷ 0x87 ∷ 0x39 ∷ []) ∷ (0x80 ∷ 0x87 ∷ 0x08 ∷ []) ∷ (0x80 ∷ 0x87 ∷ 0x00 ∷ []) ∷ [])
    ≡ at 6 Slope 5 ∷ at 6 Intercept 6 ∷ at 6 Width 7 ∷ at 9 Width 7 ∷ at 10 Area 8 ∷ None ∷ []
unfolding reach reach_head reach_fields reach_body read_varint scan read_width
linears_stop = refl

-- Blockwise, behind the head of three rows: the footer's length missing, too great; a block's fields; an area that runs into the footer;
-- the last opens
footers_stop : map (λ body. stop_of (0x02 ∷ 0x8A ∷ 0x8A ∷ 0x82 ∷ 0x83 ∷ body))
    ((0x00 ∷ 0x00 ∷ 0x00 ∷ [])
    ∷ (0x08 ∷ 0x00 ∷ 0x00 ∷ 0x00 ∷ 0x00 ∷ 0x88 ∷ 0x80 ∷ 0x02 ∷ 0x09 ∷ 0x00 ∷ 0x00 ∷ 0x00 ∷ [])
    ∷ (0x00 ∷ 0x00 ∷ 0x00 ∷ 0x00 ∷ [])
    ∷ (0x08 ∷ 0x00 ∷ 0x00 ∷ 0x00 ∷ 0x00 ∷ 0x08 ∷ 0x00 ∷ 0x02 ∷ 0x07 ∷ 0x00 ∷ 0x00 ∷ 0x00 ∷ [])
    ∷ (0x08 ∷ 0x00 ∷ 0x00 ∷ 0x00 ∷ 0x00 ∷ 0x88 ∷ 0x00 ∷ 0x02 ∷ 0x07 ∷ 0x00 ∷ 0x00 ∷ 0x00 ∷ [])
    ∷ (0x08 ∷ 0x00 ∷ 0x00 ∷ 0x00 ∷ 0x00 ∷ 0x88 ∷ 0x80 ∷ 0x06 ∷ 0x00 ∷ 0x00 ∷ 0x00 ∷ [])
    ∷ (0x08 ∷ 0x00 ∷ 0x00 ∷ 0x00 ∷ 0x00 ∷ 0x88 ∷ 0x80 ∷ 0x39 ∷ 0x07 ∷ 0x00 ∷ 0x00 ∷ 0x00 ∷ [])
    ∷ (0x08 ∷ 0x00 ∷ 0x00 ∷ 0x00 ∷ 0x00 ∷ 0x88 ∷ 0x80 ∷ 0x20 ∷ 0x07 ∷ 0x00 ∷ 0x00 ∷ 0x00 ∷ [])
    ∷ (0x08 ∷ 0x00 ∷ 0x00 ∷ 0x00 ∷ 0x00 ∷ 0x88 ∷ 0x80 ∷ 0x02 ∷ 0x07 ∷ 0x00 ∷ 0x00 ∷ 0x00 ∷ [])
    ∷ [])
    ≡ at 10 FooterLength 5 ∷ at 10 FooterLength 13 ∷ at 6 (BlockSlope 0) 5 ∷ at 6 (BlockSlope 0) 6 ∷ at 6 (BlockIntercept 0) 11 ∷ at 6 (BlockWidth 0) 12
    ∷ at 9 (BlockWidth 0) 12 ∷ at 10 Area 5 ∷ None ∷ []
unfolding reach reach_head reach_fields reach_blocks reach_body read_varint scan read_width bytes_num
footers_stop = refl
