-- The bench cases that are marked P, with the lookups, the changed P10, the listing and the comparison beside them; and one statement over all tables of cases.
-- Assumes nothing.
use Prim.Native.Nat.{ℕ, ◌-◌, ◌^◌}
use mathlib.Core.Path.{◌≡◌, refl}
use mathlib.Core.List.{List, [], ◌∷◌, ◌++◌, map}
use Rattle.format.specs.Outcome.{Outcome.value, Outcome.refusal}
use Rattle.format.specs.Varint.{spell, spell_in, scan, read_varint}
use Rattle.format.specs.Packing.{bytes_num, num_bytes, width, bit_length, bits_in, packed, bytes_of, rows_bits, bits_of, num_of, unpack}
use Rattle.format.specs.Stats.{stats_of, reduce, fold_from, gcd, euclid, spell_head, read_head}
use Rattle.format.specs.Line.{line_at, trained, rising, height, slope_of, nearer, residuals, residuals_from, spell_line}
use Rattle.format.specs.Bodies.{body, bitpacked, linear, linear_line, linear_width, deviations, blockwise, blocks, blocks_in, block_area, block_entry, block_width, block_residuals, joined, footer}
use Rattle.format.specs.Writing.{written, known, chosen, size_of, block_size, block_sizes}
use Rattle.format.specs.Saving.{saving, exponent_of, last_reached, power_bounds, reaches, in_f32, nearest}
use Rattle.format.specs.Opening.{opened, open_body, open_bitpacked, open_linear, open_blockwise, read_width, read_fields, read_blocks}
use Rattle.format.specs.Sheets.{last_fields, ending, strict, under_sheet}
use Rattle.format.specs.Reading.{row_in, place_in, column_fits, row_fits, fits, packed_of, value_in}
use Rattle.format.specs.Windows.{narrowed}
use Rattle.format.specs.Runs.{read_run, decoded}
use Rattle.format.specs.Lookup.{looked_up, all_read, rows_passing}
use Rattle.format.specs.Listing.{ascii, listing, opened_here, listed, head_line, named, named_line, decimal, decimal_in, row_line, row_texts}
use Rattle.format.specs.Comparing.{comparison, compared, pair_lines, pair_line}
use Rattle.format.proofs.Asking.{Case, Case.◌gives◌, Asked.spelling, Asked.width_of, Asked.training, Asked.writing, Asked.reading, Asked.looking, Asked.text, Asked.pair, line_of, answer, question, said}
use Rattle.format.proofs.RuleCases.{rules}
use Rattle.format.proofs.RunCases.{runs}
use Rattle.format.proofs.WindowCases.{windows}
use Rattle.format.proofs.LongCases.{longs, upwards, downwards, times}

-- every codec
abbrev pub every : List ℕ
every = 0 ∷ 1 ∷ 2 ∷ []

-- the column of P9, and that of P10 with its packed byte
abbrev pub p9 : List ℕ
p9 = 0x00 ∷ 0x8A ∷ 0x8A ∷ 0x82 ∷ 0x83 ∷ 0x18 ∷ []

abbrev pub p10 : ℕ → List ℕ
p10 b = 0x02 ∷ 0x8A ∷ 0x8A ∷ 0x82 ∷ 0x83 ∷ b ∷ 0x00 ∷ 0x00 ∷ 0x00 ∷ 0x00 ∷ 0x88 ∷ 0x80 ∷ 0x02 ∷ 0x07 ∷ 0x00 ∷ 0x00 ∷ 0x00 ∷ []

abbrev pub marked : List Case
marked =
    -- P1 to P4: varints
    (spelling 0 gives value (0x80 ∷ []))
    ∷ (spelling 127 gives value (0xFF ∷ []))
    ∷ (spelling 128 gives value (0x00 ∷ 0x81 ∷ []))
    ∷ (spelling (2 ^ 64 - 1) gives value (0x7F ∷ 0x7F ∷ 0x7F ∷ 0x7F ∷ 0x7F ∷ 0x7F ∷ 0x7F ∷ 0x7F ∷ 0x7F ∷ 0x81 ∷ []))
    -- P5, P6: widths
    ∷ (width_of (2 ^ 56 - 1) gives value (56 ∷ []))
    ∷ (width_of (2 ^ 56) gives value (64 ∷ []))
    -- P7: the empty list; P8: one value
    ∷ (writing every [] 100 gives value (0x00 ∷ 0x80 ∷ 0x81 ∷ 0x80 ∷ 0x80 ∷ []))
    ∷ (writing every (7 ∷ []) 100 gives value (0x00 ∷ 0x87 ∷ 0x81 ∷ 0x80 ∷ 0x81 ∷ []))
    -- P9; P10: the same, Blockwise only
    ∷ (writing every (10 ∷ 30 ∷ 20 ∷ []) 100 gives value p9)
    ∷ (writing (2 ∷ []) (10 ∷ 30 ∷ 20 ∷ []) 100 gives value (p10 0x08))
    -- P11: a falling line
    ∷ (training (3 ∷ 2 ∷ 1 ∷ 0 ∷ []) gives value ((2 ^ 64 - 1 - 2 ^ 32) ∷ 0 ∷ (2 ^ 64 - 2) ∷ (2 ^ 64 - 3) ∷ (2 ^ 64 - 4) ∷ 0 ∷ 1 ∷ 1 ∷ 1 ∷ 1 ∷ []))
    -- P12: one value, Blockwise only
    ∷ (writing (2 ∷ []) (7 ∷ []) 100 gives value (0x02 ∷ 0x87 ∷ 0x81 ∷ 0x80 ∷ 0x81 ∷ 0x80 ∷ 0x80 ∷ 0x00 ∷ 0x03 ∷ 0x00 ∷ 0x00 ∷ 0x00 ∷ []))
    -- lookups in P9
    ∷ (looking p9 0 9 0 9 5 gives value [])
    ∷ (looking p9 10 25 0 9 5 gives value (0 ∷ 2 ∷ []))
    ∷ (looking p9 11 19 0 9 5 gives value [])
    -- P10 with another packed byte: with 18 row 2 alone reads otherwise, with 0C row 1 is out of bounds
    ∷ (reading (p10 0x18) 1 0 gives value (10 ∷ []))
    ∷ (reading (p10 0x18) 1 1 gives value (30 ∷ []))
    ∷ (reading (p10 0x18) 1 2 gives value (30 ∷ []))
    ∷ (reading (p10 0x0C) 1 1 gives refusal 14 (1 ∷ []))
    -- the listing of P9
    ∷ (text p9 gives value (ascii "codec 0 rows 3 min 10 max 30 gcd 10\n0 10\n1 30\n2 20\nend 3\n"))
    -- P10 compared with that of 0C
    ∷ (pair (p10 0x08) (p10 0x0C) gives value (ascii "1 30 refused 14\nlines 1\n"))
    ∷ []

-- all tables: the marked cases, a case for each rule, runs, windows, long columns
abbrev pub cases : List Case
cases = marked ++ (rules ++ (runs ++ (windows ++ longs)))

-- the definitions give the right answer to each
pub cases_hold : map (λ (c : Case). answer (question c)) cases ≡ map said cases
unfolding answer line_of upwards downwards times spell spell_in scan read_varint width bit_length bits_in packed bytes_of rows_bits bits_of num_of unpack stats_of reduce fold_from gcd euclid spell_head read_head line_at trained rising height slope_of nearer residuals residuals_from spell_line written known chosen size_of body bitpacked linear linear_line linear_width deviations blockwise blocks blocks_in block_area block_entry block_width block_residuals joined footer num_bytes block_size block_sizes saving exponent_of last_reached power_bounds reaches in_f32 nearest opened open_body open_bitpacked open_linear open_blockwise read_width read_fields read_blocks bytes_num last_fields ending strict under_sheet row_in place_in column_fits row_fits fits packed_of value_in listing opened_here listed head_line named named_line decimal decimal_in row_line row_texts comparison compared pair_lines pair_line read_run decoded looked_up all_read rows_passing narrowed
cases_hold = refl
