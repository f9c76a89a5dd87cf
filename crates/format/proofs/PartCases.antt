-- The parts of the worked columns, byte by byte; columns with bytes behind the area and left over in the footer; the rows of bytes. One statement over each table.
-- Assumes nothing.
use Rattle.std.specs.Prelude.{Option, Some, None}
use Prim.Native.Nat.{ℕ, ◌-◌, ◌^◌}
use mathlib.Core.Path.{◌≡◌, refl}
use mathlib.Core.List.{List, [], ◌∷◌, map}
use Rattle.format.specs.declared.PartName.{PartName}
use Rattle.format.specs.declared.PartName.TheVariants.{Code, Minimum, Gcd, Count, Rows, Slope, Intercept, Width, Area, Behind, BlockSlope, BlockIntercept, BlockWidth, Spare, FooterLength}
use Rattle.format.specs.declared.Part.{Part}
use Rattle.format.specs.Outcome.{Outcome, Outcome.value, Outcome.refusal}
use Rattle.format.specs.Varint.{scan, read_varint}
use Rattle.format.specs.Packing.{bytes_num, width, bit_length, bits_in, unpack, rows_bits, bits_of, num_of}
use Rattle.format.specs.Stats.{read_head}
use Rattle.format.specs.Line.{line_at}
use Rattle.format.specs.Opening.{Loaded, opened, open_body, open_bitpacked, open_linear, open_blockwise, read_width, read_fields, read_blocks}
use Rattle.format.specs.Reading.{row_at, row_in, place_in, column_fits, row_fits, fits, packed_of, value_in}
use Rattle.format.specs.Parts.{block_names, extent, spelled, parts_from, parts_of, run_owners, block_owners, area_owners, owners_at}
use Rattle.format.proofs.Cases.{p9, p10}

-- the parts of what opens
abbrev pub parts_in : (s : List ℕ) → Outcome Loaded → List Part
parts_in s (value o) = parts_of s o.column
parts_in s (refusal number also) = []

abbrev pub parts : List ℕ → List Part
parts s = parts_in s (opened s 9)

abbrev pub part : PartName → (first bytes value : ℕ) → Part
part n first bytes v = record { name = n; first = first; bytes = bytes; value = v }

-- columns with their parts
pub record Parting : Type 0 where
  pub column : List ℕ
  pub are : List Part

abbrev pub partings : List Parting
partings =
    -- P7: the empty list
    record {
      column = 0x00 ∷ 0x80 ∷ 0x81 ∷ 0x80 ∷ 0x80 ∷ [];
      are = part Code 0 1 0 ∷ part Minimum 1 1 0 ∷ part Gcd 2 1 1 ∷ part Count 3 1 0 ∷ part Rows 4 1 0 ∷ part Area 5 0 0 ∷ part Behind 5 0 0 ∷ [];
    }
    -- P8: one value
    ∷ record {
      column = 0x00 ∷ 0x87 ∷ 0x81 ∷ 0x80 ∷ 0x81 ∷ [];
      are = part Code 0 1 0 ∷ part Minimum 1 1 7 ∷ part Gcd 2 1 1 ∷ part Count 3 1 0 ∷ part Rows 4 1 1 ∷ part Area 5 0 0 ∷ part Behind 5 0 0 ∷ [];
    }
    -- P9
    ∷ record {
      column = p9;
      are = part Code 0 1 0 ∷ part Minimum 1 1 10 ∷ part Gcd 2 1 10 ∷ part Count 3 1 2 ∷ part Rows 4 1 3 ∷ part Area 5 1 0 ∷ part Behind 6 0 0 ∷ [];
    }
    -- P10: the same, Blockwise
    ∷ record {
      column = p10 0x08;
      are = part Code 0 1 2 ∷ part Minimum 1 1 10 ∷ part Gcd 2 1 10 ∷ part Count 3 1 2 ∷ part Rows 4 1 3 ∷ part Area 5 1 0 ∷ part Behind 6 0 0
          ∷ part (BlockSlope 0) 6 5 (2 ^ 31) ∷ part (BlockIntercept 0) 11 1 0 ∷ part (BlockWidth 0) 12 1 2 ∷ part Spare 13 0 0 ∷ part FooterLength 13 4 7 ∷ [];
    }
    -- P11: a falling line, Blockwise
    ∷ record {
      column = 0x02 ∷ 0x80 ∷ 0x81 ∷ 0x83 ∷ 0x84 ∷ 0x0E ∷ 0x7F ∷ 0x7F ∷ 0x7F ∷ 0x7F ∷ 0x6F ∷ 0x7F ∷ 0x7F ∷ 0x7F ∷ 0x7F ∷ 0x81 ∷ 0x83 ∷ 0x01 ∷ 0x0C ∷ 0x00 ∷ 0x00 ∷ 0x00 ∷ [];
      are = part Code 0 1 2 ∷ part Minimum 1 1 0 ∷ part Gcd 2 1 1 ∷ part Count 3 1 3 ∷ part Rows 4 1 4 ∷ part Area 5 1 0 ∷ part Behind 6 0 0
          ∷ part (BlockSlope 0) 6 10 (2 ^ 64 - 1 - 2 ^ 32) ∷ part (BlockIntercept 0) 16 1 3 ∷ part (BlockWidth 0) 17 1 1 ∷ part Spare 18 0 0 ∷ part FooterLength 18 4 12 ∷ [];
    }
    -- P12: one value, Blockwise
    ∷ record {
      column = 0x02 ∷ 0x87 ∷ 0x81 ∷ 0x80 ∷ 0x81 ∷ 0x80 ∷ 0x80 ∷ 0x00 ∷ 0x03 ∷ 0x00 ∷ 0x00 ∷ 0x00 ∷ [];
      are = part Code 0 1 2 ∷ part Minimum 1 1 7 ∷ part Gcd 2 1 1 ∷ part Count 3 1 0 ∷ part Rows 4 1 1 ∷ part Area 5 0 0 ∷ part Behind 5 0 0
          ∷ part (BlockSlope 0) 5 1 0 ∷ part (BlockIntercept 0) 6 1 0 ∷ part (BlockWidth 0) 7 1 0 ∷ part Spare 8 0 0 ∷ part FooterLength 8 4 3 ∷ [];
    }
    -- Linear, with a longer spelling of the gcd and two bytes behind the area
    ∷ record {
      column = 0x01 ∷ 0x80 ∷ 0x01 ∷ 0x80 ∷ 0x83 ∷ 0x82 ∷ 0x85 ∷ 0x86 ∷ 0x02 ∷ 0x0D ∷ 0xAA ∷ 0xBB ∷ [];
      are = part Code 0 1 1 ∷ part Minimum 1 1 0 ∷ part Gcd 2 2 1 ∷ part Count 4 1 3 ∷ part Rows 5 1 2 ∷ part Slope 6 1 5 ∷ part Intercept 7 1 6 ∷ part Width 8 1 2
          ∷ part Area 9 1 0 ∷ part Behind 10 2 0 ∷ [];
    }
    -- Blockwise, with a byte between area and footer and two left over in the footer
    ∷ record {
      column = 0x02 ∷ 0x87 ∷ 0x81 ∷ 0x80 ∷ 0x81 ∷ 0xFF ∷ 0x80 ∷ 0x80 ∷ 0x00 ∷ 0xAA ∷ 0xBB ∷ 0x05 ∷ 0x00 ∷ 0x00 ∷ 0x00 ∷ [];
      are = part Code 0 1 2 ∷ part Minimum 1 1 7 ∷ part Gcd 2 1 1 ∷ part Count 3 1 0 ∷ part Rows 4 1 1 ∷ part Area 5 0 0 ∷ part Behind 5 1 0
          ∷ part (BlockSlope 0) 6 1 0 ∷ part (BlockIntercept 0) 7 1 0 ∷ part (BlockWidth 0) 8 1 0 ∷ part Spare 9 2 0 ∷ part FooterLength 11 4 5 ∷ [];
    }
    ∷ []

pub parts_named : map (λ (c : Parting). parts c.column) partings ≡ map (λ (c : Parting). c.are) partings
unfolding opened open_body open_bitpacked open_linear open_blockwise read_head read_varint scan read_fields read_width read_blocks bytes_num width bit_length bits_in block_names extent spelled parts_from
parts_named = refl

-- ---- the rows of bytes

abbrev pub owners_in : Outcome Loaded → (i : ℕ) → Option (ℕ × ℕ)
owners_in (value o) i = owners_at o.column o.table i
owners_in (refusal number also) i = None

-- bytes with their rows
pub record Owning : Type 0 where
  pub column : List ℕ
  pub byte : ℕ
  pub own : Option (ℕ × ℕ)

-- four rows of five bits
abbrev pub fives : List ℕ
fives = 0x00 ∷ 0x80 ∷ 0x81 ∷ 0x9F ∷ 0x84 ∷ 0x00 ∷ 0x00 ∷ 0x00 ∷ 0xFF ∷ []

abbrev pub ownings : List Owning
ownings =
    record { column = p9; byte = 5; own = Some (0, 2) }
    -- P10: all three rows have a bit in byte 5; none has one in the byte before it or behind
    ∷ record { column = p10 0x08; byte = 4; own = None }
    ∷ record { column = p10 0x08; byte = 5; own = Some (0, 2) }
    ∷ record { column = p10 0x08; byte = 6; own = None }
    -- rows that reach over the end of a byte are named for both
    ∷ record { column = fives; byte = 5; own = Some (0, 1) }
    ∷ record { column = fives; byte = 6; own = Some (1, 3) }
    ∷ record { column = fives; byte = 7; own = Some (3, 3) }
    -- a byte behind the area
    ∷ record { column = fives; byte = 8; own = None }
    ∷ []

pub rows_named : map (λ (c : Owning). owners_in (opened c.column 9) c.byte) ownings ≡ map (λ (c : Owning). c.own) ownings
unfolding opened open_body open_bitpacked open_linear open_blockwise read_head read_varint scan read_fields read_width read_blocks bytes_num width bit_length bits_in run_owners block_owners area_owners owners_at
rows_named = refl

-- ---- filling bits

-- the answers of three rows
abbrev pub answers : List ℕ → Outcome Loaded → List (Outcome ℕ)
answers s (value o) = map (λ (r : ℕ). row_at o.column o.table s r) (0 ∷ 1 ∷ 2 ∷ [])
answers s (refusal number also) = []

-- P10 with its two filling bits set answers as P10 does
pub filling_silent : answers (p10 0xC8) (opened (p10 0xC8) 9) ≡ value 10 ∷ value 30 ∷ value 20 ∷ []
unfolding opened open_body open_blockwise read_head read_varint scan read_fields read_width read_blocks bytes_num row_in place_in fits column_fits row_fits packed_of value_in unpack rows_bits bits_of num_of line_at
filling_silent = refl
