-- Columns with their explanations, computed: each codec, bytes behind the area and left over in the footer, no rows, refusals. One statement over the table.
--     text                         lines as text
--     cases, cases_hold
--     p10_lines, p10_explained      P10 by itself: `decimal` computes with a bound as large as the number, here the slope 2^31, so the law of digits gives these
-- Assumes nothing.
use Prim.Native.Nat.{ℕ}
use Prim.Native.String.{String}
use mathlib.Core.Path.{◌≡◌, refl, sym, ap, ◌∙◌}
use mathlib.Core.List.{List, [], ◌∷◌, ◌++◌, map}
use lib.Dec.{lit<, lit≤}
use Rattle.format.specs.declared.PartName.TheVariants.{BlockSlope}
use Rattle.format.specs.Varint.{scan, read_varint}
use Rattle.format.specs.Packing.{bytes_num, width, bit_length, bits_in}
use Rattle.format.specs.Stats.{read_head}
use Rattle.format.specs.Opening.{opened, open_body, open_bitpacked, open_linear, open_blockwise, read_width, read_fields, read_blocks}
use Rattle.format.specs.Parts.{block_names, extent, spelled, parts_from}
use Rattle.format.specs.Listing.{ascii, decimal_in, decimal, named, named_line, row_texts, opened_here}
use Rattle.format.proofs.Cases.{p9, p10}
use Rattle.format.proofs.Example.{p10_loaded}
use Rattle.text.proofs.Decimals.{digits_decimal}
use Rattle.text_explain.specs.Explained.{name_text, place_text, part_line, text_at, explanation}

-- lines as text, each with its line feed
abbrev pub text : List String → List ℕ
text [] = []
text (l ∷ ls) = ascii l ++ (ascii "\n" ++ text ls)

-- some bytes with the lines of their explanation
pub record Case : Type 0 where
  pub bytes : List ℕ
  pub lines : List String

abbrev pub cases : List Case
cases =
    -- P9
    record {
      bytes = p9;
      lines = "0 1 code 0" ∷ "1 1 minimum 10" ∷ "2 1 gcd 10" ∷ "3 1 count 2" ∷ "4 1 rows 3" ∷ "5 1 area bits 2" ∷ [];
    }
    -- P7: with no rows there is no area
    ∷ record {
      bytes = 0x00 ∷ 0x80 ∷ 0x81 ∷ 0x80 ∷ 0x80 ∷ [];
      lines = "0 1 code 0" ∷ "1 1 minimum 0" ∷ "2 1 gcd 1" ∷ "3 1 count 0" ∷ "4 1 rows 0" ∷ [];
    }
    -- Linear, with a longer spelling of the gcd and two bytes behind the area
    ∷ record {
      bytes = 0x01 ∷ 0x80 ∷ 0x01 ∷ 0x80 ∷ 0x83 ∷ 0x82 ∷ 0x85 ∷ 0x86 ∷ 0x02 ∷ 0x0D ∷ 0xAA ∷ 0xBB ∷ [];
      lines = "0 1 code 1" ∷ "1 1 minimum 0" ∷ "2 2 gcd 1" ∷ "4 1 count 3" ∷ "5 1 rows 2" ∷ "6 1 slope 5" ∷ "7 1 intercept 6" ∷ "8 1 width 2"
          ∷ "9 1 area bits 2" ∷ "10 2 behind" ∷ [];
    }
    -- Blockwise, with a byte between area and footer and two left over in the footer
    ∷ record {
      bytes = 0x02 ∷ 0x8A ∷ 0x8A ∷ 0x82 ∷ 0x83 ∷ 0x18 ∷ 0xFF ∷ 0x80 ∷ 0x80 ∷ 0x02 ∷ 0xAA ∷ 0xBB ∷ 0x05 ∷ 0x00 ∷ 0x00 ∷ 0x00 ∷ [];
      lines = "0 1 code 2" ∷ "1 1 minimum 10" ∷ "2 1 gcd 10" ∷ "3 1 count 2" ∷ "4 1 rows 3" ∷ "5 1 area" ∷ "6 1 behind"
          ∷ "7 1 block 0 slope 0" ∷ "8 1 block 0 intercept 0" ∷ "9 1 block 0 width 2" ∷ "10 2 spare" ∷ "12 4 footer length 5" ∷ [];
    }
    -- refusals: a code that there is not, an area that is cut short
    ∷ record { bytes = 0x03 ∷ 0x8A ∷ 0x8A ∷ 0x82 ∷ 0x83 ∷ 0x18 ∷ []; lines = "refused 5" ∷ [] }
    ∷ record { bytes = 0x00 ∷ 0x8A ∷ 0x8A ∷ 0x82 ∷ 0x83 ∷ []; lines = "refused 10" ∷ [] }
    ∷ []

pub cases_hold : map (λ (c : Case). explanation c.bytes) cases ≡ map (λ (c : Case). text c.lines) cases
unfolding scan read_varint bytes_num width bit_length bits_in read_head opened open_body open_bitpacked open_linear open_blockwise read_width read_fields read_blocks block_names extent spelled parts_from decimal_in decimal named named_line row_texts opened_here place_text part_line explanation
cases_hold = refl

-- ---- P10

abbrev pub p10_lines : List String
p10_lines =
    "0 1 code 2" ∷ "1 1 minimum 10" ∷ "2 1 gcd 10" ∷ "3 1 count 2" ∷ "4 1 rows 3" ∷ "5 1 area"
    ∷ "6 5 block 0 slope 2147483648" ∷ "11 1 block 0 intercept 0" ∷ "12 1 block 0 width 2" ∷ "13 4 footer length 7" ∷ []

-- the text of its part n
abbrev p10_text : (n : ℕ) → List ℕ
p10_text n = text_at (p10 0x08) p10_loaded.column n

-- the parts before the slope, and the rest of the text
abbrev until_slope : (rest : List ℕ) → List ℕ
until_slope rest = p10_text 0 ++ (p10_text 1 ++ (p10_text 2 ++ (p10_text 3 ++ (p10_text 4 ++ (p10_text 5 ++ (p10_text 6 ++ rest))))))

-- the slope's line, by what is said behind its name
abbrev slope_line : (said : List ℕ) → List ℕ
slope_line said = place_text 6 5 ++ (name_text (BlockSlope 0) ++ (said ++ ascii "\n"))

-- its digits
slope_digits : named (ascii " ") 2147483648 ≡ ascii " 2147483648"
unfolding named
slope_digits = ap (λ (l : List ℕ). ascii " " ++ l) (sym (digits_decimal 10 2147483648 (lit≤ tt, lit< tt, λ _. lit≤ tt)))

-- all parts; the slope's; the text with its digits in place
p10_parts : explanation (p10 0x08) ≡ until_slope (p10_text 7 ++ row_texts p10_text 8 4)
unfolding scan read_varint bytes_num read_head opened open_body open_blockwise read_width read_fields read_blocks block_names extent spelled parts_from row_texts opened_here explanation
p10_parts = refl

p10_slope : p10_text 7 ≡ slope_line (named (ascii " ") 2147483648)
unfolding scan read_varint bytes_num block_names extent spelled parts_from part_line
p10_slope = refl

p10_text_lem : until_slope (slope_line (ascii " 2147483648") ++ row_texts p10_text 8 4) ≡ text p10_lines
unfolding scan read_varint bytes_num block_names extent spelled parts_from decimal_in decimal named row_texts place_text part_line
p10_text_lem = refl

pub p10_explained : explanation (p10 0x08) ≡ text p10_lines
p10_explained =
    p10_parts
    ∙ ap (λ (l : List ℕ). until_slope (l ++ row_texts p10_text 8 4)) (p10_slope ∙ ap slope_line slope_digits)
    ∙ p10_text_lem
