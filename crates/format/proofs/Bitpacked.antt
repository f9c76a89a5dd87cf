-- Bitpacked's round trip (`bitpacked_round`), and that its size in the choice is the length of what it writes (`bitpacked_size`).
-- Assumes nothing.
use Rattle.std.specs.Prelude.{Some, None}
use mathlib.Core.Path.{◌≡◌, refl, sym, ap, ◌∙◌}
use mathlib.Core.List.{List, [], ◌∷◌, ◌++◌, append-nil}
use Prim.Native.Nat.{ℕ, ◌+◌, ◌-◌, ◌*◌, ◌/◌, ◌%◌, ◌^◌, ◌<◌}
use native.Mathlib.Nat.{add-zero}
use native.Mathlib.Omega.{arith}
use lib.ListN.{length, get_or, length-append}
use borrow.Author.Tests.{le-leb}
use Rattle.format.specs.declared.Codec.TheVariants.{Bitpacked}
use Rattle.format.specs.Outcome.{Outcome.value}
use Rattle.format.specs.Word.{bytes_for, AllBelow}
use Rattle.format.specs.Packing.{width, packed}
use Rattle.format.specs.Stats.{stats_of}
use Rattle.format.specs.Bodies.{body, bitpacked, column_by}
use Rattle.format.specs.Writing.{size_of}
use Rattle.format.specs.Opening.{opened}
use Rattle.format.specs.Sheets.{overfull, ending, strict}
use Rattle.format.specs.Reading.{packed_of, value_in, place_in, block_at}
use Rattle.format.specs.Demands.{reads_as}
use Rattle.format.proofs.Packing.{round_trip_all, length-packed}
use Rattle.format.proofs.Widths.{width_fits}
use Rattle.format.proofs.Statistics.{multiples, multiples_length, multiple_at, multiple_back, multiple_within, count_below}
use Rattle.format.proofs.Heads.{head_bytes, written_head, count_in, behind_head}
use Rattle.format.proofs.Openings.{bitpacked_of, opens_bitpacked}
use Rattle.format.proofs.Sheets.{unclaimed_none, overfull-packed, clean_column}
use Rattle.format.proofs.RoundTrip.{RoundTrips, begins}

module _ (vs : List ℕ) where
  -- the multiples, their width and their bytes
  abbrev ns : List ℕ
  ns = multiples vs

  abbrev bits : ℕ
  bits = width (count_in vs)

  abbrev area : List ℕ
  area = packed bits ns

  abbrev size : ℕ
  size = bytes_for (bits * length vs)

  area_length : length area ≡ size
  area_length = length-packed bits ns ∙ ap (λ (n : ℕ). bytes_for (bits * n)) (multiples_length vs)

  -- the column's bytes
  abbrev column : List ℕ
  column = 0 ∷ (head_bytes vs ++ area)

  column_length : length column ≡ 1 + length (head_bytes vs) + size
  column_length = omega (arith, length-append (head_bytes vs) area, area_length)

  column_is : column_by 0 vs ≡ column
  unfolding body bitpacked stats_of
  column_is = refl

  module _ (each : AllBelow (2 ^ 64) vs) (few : length vs < 2 ^ 32) where
    column_opens : (room : ℕ) → opened column room ≡ value (bitpacked_of (written_head vs))
    column_opens room = opens_bitpacked column (written_head vs) room (record { begun = begins 0 vs area (omega arith) each few; area = omega (arith, column_length) })

    -- nothing offends sheet 2
    column_passes : strict column (bitpacked_of (written_head vs)).column None ≡ value tt
    unfolding strict ending
    column_passes =
        let start = 1 + length (head_bytes vs) in
        let full : overfull column (start + bytes_for (bits * length ns) - 1) (bits * length ns % 8) ≡ None =
        overfull-packed column start bits ns [] (behind_head 0 vs area ∙ sym (append-nil area)) in
        clean_column column (bitpacked_of (written_head vs)).column _
        (ap (λ (n : ℕ). overfull column (start + bytes_for (bits * n) - 1) (bits * n % 8)) (sym (multiples_length vs)) ∙ full)
        (unclaimed_none (start + size) (length column) (omega (arith, column_length))) refl

    multiple_fits : (r : ℕ) → r < length vs → get_or ns r 0 < 2 ^ bits
    multiple_fits r h = rw (multiple_at vs r h) (width_fits (count_in vs) _ (count_below vs each) (multiple_within vs r h))

    packed_back : (r : ℕ) → r < length vs → packed_of (bitpacked_of (written_head vs)).column (block_at [] (r / 512)) column r ≡ get_or ns r 0
    unfolding packed_of place_in
    packed_back r h =
        rw (add-zero, behind_head 0 vs area)
        (round_trip_all bits ns r (rw (multiples_length vs) h) (multiple_fits r h))

    value_back : (r : ℕ) → r < length vs → value_in Bitpacked (bitpacked_of (written_head vs)).column (block_at [] (r / 512)) r (packed_of (bitpacked_of (written_head vs)).column (block_at [] (r / 512)) column r) ≡ reads_as vs r
    unfolding value_in
    value_back r h = rw (packed_back r h, multiple_at vs r h, le-leb _ _ (multiple_within vs r h), multiple_back vs r h)

pub bitpacked_round : RoundTrips 0
bitpacked_round vs each few applies = record {
  loaded = bitpacked_of (written_head vs);
  opens = λ room enough. rw (column_is vs) (column_opens vs each few room);
  count = refl;
  shortest = refl;
  passes = rw (column_is vs) (column_passes vs each few);
  values = λ r h. rw (column_is vs) (value_back vs each few r h);
}

-- its size in the choice is the length of what it writes
pub bitpacked_size : (vs : List ℕ) → size_of 0 (stats_of vs) vs ≡ Some (length (body 0 (stats_of vs) vs))
unfolding size_of stats_of
bitpacked_size vs =
    let long : length (head_bytes vs) + size vs ≡ length (body 0 (stats_of vs) vs) = omega (arith, column_length vs, ap length (column_is vs)) in
    ap Some long
