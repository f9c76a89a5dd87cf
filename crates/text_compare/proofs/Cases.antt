-- Cases of windows compared, on the columns of P9 and P10 and on one of two blocks: what is narrowed, and by the answers of which rows.
--     windows_hold      the definitions give the right text for each
-- Assumes nothing.
use Prim.Native.Nat.{ℕ}
use Prim.Native.String.{String}
use mathlib.Core.Path.{◌≡◌, refl}
use mathlib.Core.List.{List, [], ◌∷◌, map}
use Rattle.format.specs.Outcome.{Outcome, Outcome.value, ◌>>=◌}
use Rattle.format.specs.Varint.{scan, read_varint}
use Rattle.format.specs.Packing.{bytes_num, width, bit_length, bits_in, bits_of, num_of, rows_bits, unpack}
use Rattle.format.specs.Stats.{read_head}
use Rattle.format.specs.Line.{line_at}
use Rattle.format.specs.Opening.{Loaded, opened, open_body, open_bitpacked, open_linear, open_blockwise, read_width, read_fields, read_blocks}
use Rattle.format.specs.Reading.{row_in, place_in, column_fits, row_fits, fits, packed_of, value_in}
use Rattle.format.specs.Windows.{narrowed}
use Rattle.format.specs.Lookup.{rows_passing}
use Rattle.format.specs.Listing.{ascii, opened_here, named, named_line, decimal, decimal_in}
use Rattle.format.specs.Comparing.{compared, pair_lines, pair_line}
use Rattle.format.specs.declared.Column.{Column}
use Rattle.format.proofs.Cases.{p9, p10}
use Rattle.text_compare.specs.Through.{compared_through}

-- two columns, and the first row and the row count of a window in each; the text of their comparison
pub record Case : Type 0 where
  pub left : List ℕ
  pub first : ℕ
  pub count : ℕ
  pub right : List ℕ
  pub from : ℕ
  pub rows : ℕ
  pub text : String

-- a column of some bytes, narrowed
abbrev seen : (s : List ℕ) (first count : ℕ) → Outcome Column
seen s first count = opened_here s >>= (λ (o : Loaded). narrowed o.column first count)

-- what comparing them comes to
abbrev pub answer : Case → Outcome (List ℕ)
answer c =
    seen c.left c.first c.count
    >>= (λ (l : Column). seen c.right c.from c.rows >>= (λ (r : Column). value (compared_through l r c.left c.right)))

abbrev case : (left : List ℕ) (first count : ℕ) (right : List ℕ) (from rows : ℕ) (text : String) → Case
case left first count right from rows text = record { left = left; first = first; count = count; right = right; from = from; rows = rows; text = text }

-- the tens to 5120, in two blocks without bits
abbrev tens : List ℕ
tens = 0x02 ∷ 0x80 ∷ 0x8A ∷ 0x00 ∷ 0x84 ∷ 0x01 ∷ 0x84 ∷ 0x00 ∷ 0x00 ∷ 0x00 ∷ 0x00 ∷ 0x90 ∷ 0x80 ∷ 0x00 ∷ 0x80 ∷ 0x00 ∷ 0x84 ∷ 0x00 ∷ 0x0B ∷ 0x00 ∷ 0x00 ∷ 0x00 ∷ []

abbrev pub cases : List Case
cases =
    -- rows 1 and 2 of P9 and P10; other rows of one column
    case p9 1 2 (p10 0x08) 1 2 "lines 0\n"
    ∷ case p9 0 2 p9 1 2 "0 10 30\n1 30 20\nlines 2\n"
    -- windows of unequal length
    ∷ case p9 1 1 (p10 0x08) 1 2 "1 none 20\nlines 1\n"
    ∷ case p9 2 1 (p10 0x08) 3 0 "0 20 none\nlines 1\n"
    -- row 1 is refused 14: it is row 0 of the window
    ∷ case p9 1 2 (p10 0x0C) 1 2 "0 30 refused 14\nlines 1\n"
    -- windows that begin in the middle of a block, and cross its end
    ∷ case tens 510 3 tens 510 3 "lines 0\n"
    ∷ case tens 511 2 tens 510 2 "0 5110 5100\n1 5120 5110\nlines 2\n"
    ∷ []

pub windows_hold : map answer cases ≡ map (λ (c : Case). value (ascii c.text)) cases
unfolding scan read_varint bytes_num width bit_length bits_in bits_of num_of rows_bits unpack read_head line_at opened open_body open_bitpacked open_linear open_blockwise read_width read_fields read_blocks row_in place_in column_fits row_fits fits packed_of value_in narrowed rows_passing opened_here named named_line decimal decimal_in compared pair_lines pair_line
windows_hold = refl
