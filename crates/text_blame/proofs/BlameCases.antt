-- Pairs of columns with the blame of both, computed: equal ones, a byte of the area, of a field, behind the area and left over in the footer, unequal lengths,
-- refusals, rows that two bytes share. One statement over the table.
--     cases, cases_hold
-- Assumes nothing.
use Prim.Native.Nat.{ℕ}
use Prim.Native.String.{String}
use mathlib.Core.Path.{◌≡◌, refl}
use mathlib.Core.List.{List, [], ◌∷◌, map}
use Rattle.format.specs.Varint.{scan, read_varint}
use Rattle.format.specs.Packing.{bytes_num, width, bit_length, bits_in, unpack, rows_bits, bits_of, num_of}
use Rattle.format.specs.Stats.{read_head}
use Rattle.format.specs.Line.{line_at}
use Rattle.format.specs.Opening.{opened, open_body, open_bitpacked, open_linear, open_blockwise, read_width, read_fields, read_blocks}
use Rattle.format.specs.Reading.{row_in, place_in, column_fits, row_fits, fits, packed_of, value_in}
use Rattle.format.specs.Parts.{block_names, extent, spelled, parts_from, part_in, run_owners, block_owners, area_owners, owners_at}
use Rattle.format.specs.Listing.{decimal_in, decimal, named, named_line, row_texts, opened_here}
use Rattle.format.proofs.Cases.{p9, p10}
use Rattle.byte_part.specs.Bytes.{part_of}
use Rattle.byte_owner.specs.Bytes.{rows_of}
use Rattle.text_explain.proofs.ExplainCases.{text}
use Rattle.text_blame_bytes.specs.Fields.{first_field}
use Rattle.text_blame_bytes.specs.Tallies.{tally_from}
use Rattle.text_blame_lines.specs.Bytes.{lengths_line, field_line, byte_line, both_line, text_at}
use Rattle.text_blame.specs.Beginning.{blame}

-- four rows of five bits, by the first two bytes of the area, with a byte behind it
abbrev pub fives : (first second behind : ℕ) → List ℕ
fives first second behind = 0x00 ∷ 0x80 ∷ 0x81 ∷ 0x9F ∷ 0x84 ∷ first ∷ second ∷ 0x00 ∷ behind ∷ []

-- Blockwise, with a byte between area and footer and two left over in the footer, by these
abbrev pub spared : (behind first second : ℕ) → List ℕ
spared behind first second =
    0x02 ∷ 0x8A ∷ 0x8A ∷ 0x82 ∷ 0x83 ∷ 0x18 ∷ behind ∷ 0x80 ∷ 0x80 ∷ 0x02 ∷ first ∷ second ∷ 0x05 ∷ 0x00 ∷ 0x00 ∷ 0x00 ∷ []

-- Linear, two rows of one bit above a line through 10, by the line's slope and the area's byte
abbrev pub straight : (slope area : ℕ) → List ℕ
straight slope area = 0x01 ∷ 0x8A ∷ 0x81 ∷ 0x82 ∷ 0x82 ∷ slope ∷ 0x8A ∷ 0x01 ∷ area ∷ []

-- Blockwise, 513 rows: a block without bits, and one of a row of one bit
abbrev pub two_blocks : (area : ℕ) → List ℕ
two_blocks area =
    0x02 ∷ 0x80 ∷ 0x81 ∷ 0x81 ∷ 0x01 ∷ 0x84 ∷ area ∷ 0x80 ∷ 0x80 ∷ 0x00 ∷ 0x80 ∷ 0x80 ∷ 0x01 ∷ 0x06 ∷ 0x00 ∷ 0x00 ∷ 0x00 ∷ []

-- a code that there is not
abbrev pub unknown : List ℕ
unknown = 0x03 ∷ 0x8A ∷ 0x8A ∷ 0x82 ∷ 0x83 ∷ 0x18 ∷ []

-- an area that is cut short
abbrev pub short : List ℕ
short = 0x00 ∷ 0x8A ∷ 0x8A ∷ 0x82 ∷ 0x83 ∷ []

-- two byte strings with the lines of their blame
pub record Case : Type 0 where
  pub left : List ℕ
  pub right : List ℕ
  pub lines : List String

abbrev pub cases : List Case
cases =
    -- P10 against itself
    record { left = p10 0x08; right = p10 0x08; lines = "bytes 0 rows 0" ∷ [] }
    -- with 18 row 2 reads otherwise, with 0C row 1 is out of bounds; all three have bits in the byte
    ∷ record { left = p10 0x08; right = p10 0x18; lines = "byte 5 area" ∷ "row 0 10 10" ∷ "row 1 30 30" ∷ "row 2 20 30" ∷ "bytes 1 rows 3" ∷ [] }
    ∷ record { left = p10 0x08; right = p10 0x0C; lines = "byte 5 area" ∷ "row 0 10 10" ∷ "row 1 30 refused 14" ∷ "row 2 20 20" ∷ "bytes 1 rows 3" ∷ [] }
    -- with 0C and 1C row 1 is out of bounds on both sides
    ∷ record { left = p10 0x0C; right = p10 0x1C; lines = "byte 5 area" ∷ "row 0 10 10" ∷ "row 1 refused 14 refused 14" ∷ "row 2 20 30" ∷ "bytes 1 rows 3" ∷ [] }
    -- rows 1 to 3 alone own a bit of the second byte; row 1 is named by two bytes and counted once
    ∷ record { left = fives 0x00 0x00 0xFF; right = fives 0x00 0x01 0xFF; lines = "byte 6 area" ∷ "row 1 0 8" ∷ "row 2 0 0" ∷ "row 3 0 0" ∷ "bytes 1 rows 3" ∷ [] }
    ∷ record {
      left = fives 0x00 0x00 0xFF;
      right = fives 0x20 0x01 0xFF;
      lines = "byte 5 area" ∷ "row 0 0 0" ∷ "row 1 0 9" ∷ "byte 6 area" ∷ "row 1 0 9" ∷ "row 2 0 0" ∷ "row 3 0 0" ∷ "bytes 2 rows 4" ∷ [];
    }
    -- a bit that fills up the last byte changes no row
    ∷ record { left = straight 0x80 0x01; right = straight 0x80 0x05; lines = "byte 8 area" ∷ "row 0 11 11" ∷ "row 1 10 10" ∷ "bytes 1 rows 2" ∷ [] }
    ∷ record { left = straight 0x80 0x01; right = straight 0x80 0x02; lines = "byte 8 area" ∷ "row 0 11 10" ∷ "row 1 10 11" ∷ "bytes 1 rows 2" ∷ [] }
    -- the first byte of the area is the second block's
    ∷ record { left = two_blocks 0x00; right = two_blocks 0x01; lines = "byte 6 area" ∷ "row 512 0 1" ∷ "bytes 1 rows 1" ∷ [] }
    -- bytes that no row owns: behind the area, left over in the footer
    ∷ record { left = fives 0x00 0x00 0xFF; right = fives 0x00 0x00 0xFE; lines = "byte 8 behind" ∷ "bytes 1 rows 0" ∷ [] }
    ∷ record { left = spared 0xFF 0xAA 0xBB; right = spared 0xFE 0xAA 0xBC; lines = "byte 6 behind" ∷ "byte 11 spare" ∷ "bytes 2 rows 0" ∷ [] }
    -- a field is the only line, though the area differs too
    ∷ record { left = p9; right = 0x00 ∷ 0x8B ∷ 0x8A ∷ 0x82 ∷ 0x83 ∷ 0x08 ∷ []; lines = "fields differ at byte 1 minimum" ∷ [] }
    ∷ record { left = straight 0x80 0x01; right = straight 0x81 0x01; lines = "fields differ at byte 5 slope" ∷ [] }
    -- unequal lengths come before fields
    ∷ record { left = p9; right = 0x00 ∷ 0x8B ∷ 0x8A ∷ 0x82 ∷ 0x83 ∷ 0x18 ∷ 0xFF ∷ []; lines = "lengths differ 6 7" ∷ [] }
    -- refusals come before lengths, and the left one first
    ∷ record { left = short; right = p9; lines = "left refused 10" ∷ [] }
    ∷ record { left = p9; right = short; lines = "right refused 10" ∷ [] }
    ∷ record { left = short; right = unknown; lines = "left refused 10" ∷ [] }
    ∷ []

pub cases_hold : map (λ (c : Case). blame c.left c.right) cases ≡ map (λ (c : Case). text c.lines) cases
unfolding scan read_varint bytes_num width bit_length bits_in unpack rows_bits bits_of num_of read_head line_at opened open_body open_bitpacked open_linear open_blockwise read_width read_fields read_blocks row_in place_in column_fits row_fits fits packed_of value_in block_names extent spelled parts_from part_in run_owners block_owners area_owners owners_at decimal_in decimal named named_line row_texts opened_here part_of rows_of first_field lengths_line field_line byte_line both_line text_at tally_from blame
cases_hold = refl
