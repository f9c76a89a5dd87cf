-- Linear's round trip.
--     residual_fits, line_fits     residuals over the lowered line fit the width, and the line has 64-bit numbers
--     linear_round                 what is written opens and comes back
--     linear_size                  the size in the choice is the length of what is written
-- Assumes nothing.
use Rattle.std.specs.Prelude.{Some, None}
use mathlib.Core.Path.{◌≡◌, refl, sym, ap, ◌∙◌}
use mathlib.Core.Bool.{true}
use mathlib.Core.List.{List, [], ◌∷◌, ◌++◌, append-nil}
use Prim.Native.Nat.{ℕ, ◌+◌, ◌-◌, ◌*◌, ◌/◌, ◌%◌, ◌^◌, ◌≤◌, ◌<◌}
use native.Mathlib.Nat.{add-zero, mul_comm}
use native.Mathlib.Omega.{arith}
use lib.ListN.{length, take, drop, get_or, length-append, length-map}
use borrow.Author.Tests.{le-leb, le-ltb}
use Rattle.format.specs.declared.Codec.TheVariants.{Linear}
use Rattle.format.specs.declared.Fields.{Fields}
use Rattle.format.specs.Outcome.{Outcome.value}
use Rattle.format.specs.Word.{mod_add, mod_sub, bytes_for, AllBelow}
use Rattle.format.specs.Packing.{legal, packed}
use Rattle.format.specs.Stats.{least, greatest, gcd_of, stats_of}
use Rattle.format.specs.Line.{line_at, residuals, spell_line}
use Rattle.format.specs.Bodies.{body, linear, half, deviations, first_line, linear_line, linear_width, column_by}
use Rattle.format.specs.Writing.{size_of}
use Rattle.format.specs.Opening.{opened}
use Rattle.format.specs.Sheets.{overfull, ending, strict}
use Rattle.format.specs.Reading.{packed_of, value_in, place_in, block_at}
use Rattle.format.specs.Demands.{reads_as}
use Rattle.format.proofs.Lists.{map_at, drop_past}
use Rattle.format.proofs.Words.{sub_below, sub_raised}
use Rattle.format.proofs.Packing.{round_trip_all, length-packed}
use Rattle.format.proofs.Widths.{width-legal, width_fits}
use Rattle.format.proofs.Statistics.{least_most, greatest-least, count_back, greatest_below}
use Rattle.format.proofs.Lines.{line_below, restored, residual_lowered, residuals-length, residual_at, trained_below, LineBelow}
use Rattle.format.proofs.LineFields.{read_fields_lem}
use Rattle.format.proofs.Heads.{head_bytes, written_head, count_in, behind_head}
use Rattle.format.proofs.Openings.{linear_of, opens_linear}
use Rattle.format.proofs.Sheets.{unclaimed_none, overfull-packed, clean_column}
use Rattle.format.proofs.RoundTrip.{RoundTrips, begins}

-- ---- the lowered line

module _ (vs : List ℕ) where
  abbrev raised : List ℕ
  raised = deviations (first_line vs) vs

  raised_length : length raised ≡ length vs
  unfolding deviations
  raised_length = length-map (residuals (first_line vs) vs) _ ∙ residuals-length (first_line vs) vs

  -- a deviation is the value raised by half, less the first line
  raised_at : (r : ℕ) → r < length vs → get_or raised r 0 ≡ mod_sub (mod_add (get_or vs r 0) half) (line_at (first_line vs) r)
  unfolding deviations
  raised_at r h =
      map_at (λ d. mod_add d half) (residuals (first_line vs) vs) r (rw residuals-length h)
      ∙ ap (λ (d : ℕ). mod_add d half) (residual_at (first_line vs) vs r h)
      ∙ sub_raised (get_or vs r 0) (line_at (first_line vs) r) half (line_below (first_line vs) r)

  raised_below : AllBelow (2 ^ 64) raised
  raised_below r h = rw (raised_at r (rw raised_length at h)) (sub_below _ (line_at (first_line vs) r))

  -- what is left of a value above the lowered line is its deviation less the least
  left_at : (r : ℕ) → r < length vs → get_or (residuals (linear_line vs) vs) r 0 ≡ get_or raised r 0 - least raised
  unfolding linear_line
  left_at r h =
      let least_here : least raised ≤ mod_sub (mod_add (get_or vs r 0) half) (line_at (first_line vs) r) =
      rw (raised_at r h) at (least_most raised r (rw raised_length h)) in
      rw (raised_at r h)
      (residual_at _ vs r h ∙ residual_lowered (first_line vs) r (get_or vs r 0) (least raised) half (omega arith) least_here)

  -- so it fits the width of the deviations' span
  pub residual_fits : (r : ℕ) → r < length vs → get_or (residuals (linear_line vs) vs) r 0 < 2 ^ linear_width vs
  unfolding linear_width
  residual_fits r h =
      rw (left_at r h)
      (width_fits (greatest raised - least raised) _ (omega (arith, greatest_below raised raised_below)) (omega (arith, greatest-least raised r (rw raised_length h))))

  linear-legal : legal (linear_width vs) ≡ true
  unfolding linear_width
  linear-legal = width-legal _

  pub line_fits : LineBelow (linear_line vs)
  unfolding linear_line
  line_fits = record { slope = (trained_below (take 512 vs)).slope; intercept = sub_below (mod_add (first_line vs).intercept (least raised)) half }

-- ---- the column

module _ (vs : List ℕ) where
  abbrev bits : ℕ
  bits = linear_width vs

  abbrev left : List ℕ
  left = residuals (linear_line vs) vs

  abbrev area : List ℕ
  area = packed bits left

  abbrev size : ℕ
  size = bytes_for (bits * length vs)

  abbrev line_bytes : List ℕ
  line_bytes = spell_line (linear_line vs)

  area_length : length area ≡ size
  area_length = length-packed bits left ∙ ap (λ (n : ℕ). bytes_for (bits * n)) (residuals-length (linear_line vs) vs)

  -- the column's bytes, where its area starts, and its fields
  abbrev column : List ℕ
  column = 1 ∷ (head_bytes vs ++ (line_bytes ++ (bits ∷ area)))

  abbrev start : ℕ
  start = 1 + length (head_bytes vs) + length line_bytes + 1

  column_length : length column ≡ start + size
  column_length = omega (arith, length-append (head_bytes vs) (line_bytes ++ (bits ∷ area)), length-append line_bytes (bits ∷ area), area_length)

  column_is : column_by 1 vs ≡ column
  unfolding body linear
  column_is = refl

  abbrev fields : Fields
  fields = record { line = linear_line vs; bits = bits; next = start; longer = None }

  behind_line : drop start column ≡ area
  behind_line =
      drop_past column (1 + length (head_bytes vs) + length line_bytes) (bits ∷ []) area
      (drop_past column (1 + length (head_bytes vs)) line_bytes (bits ∷ area) (behind_head 1 vs (line_bytes ++ (bits ∷ area))))

  module _ (each : AllBelow (2 ^ 64) vs) (few : length vs < 2 ^ 32) where
    column_opens : (room : ℕ) → opened column room ≡ value (linear_of (written_head vs) fields)
    column_opens room = opens_linear column (written_head vs) fields room (record {
      begun = begins 1 vs (line_bytes ++ (bits ∷ area)) (omega arith) each few;
      fields = read_fields_lem column (1 + length (head_bytes vs)) (linear_line vs) bits area (behind_head 1 vs (line_bytes ++ (bits ∷ area))) (line_fits vs) (linear-legal vs);
      area = omega (arith, column_length);
    })

    -- nothing offends sheet 2
    column_passes : strict column (linear_of (written_head vs) fields).column None ≡ value tt
    unfolding strict ending
    column_passes =
        let full : overfull column (start + bytes_for (bits * length left) - 1) (bits * length left % 8) ≡ None =
        overfull-packed column start bits left [] (behind_line ∙ sym (append-nil area)) in
        clean_column column (linear_of (written_head vs) fields).column _
        (ap (λ (n : ℕ). overfull column (start + bytes_for (bits * n) - 1) (bits * n % 8)) (sym (residuals-length (linear_line vs) vs)) ∙ full)
        (unclaimed_none (start + size) (length column) (omega (arith, column_length))) refl

    packed_back : (r : ℕ) → r < length vs → packed_of (linear_of (written_head vs) fields).column (block_at [] (r / 512)) column r ≡ mod_sub (get_or vs r 0) (line_at (linear_line vs) r)
    unfolding packed_of place_in
    packed_back r h =
        rw (add-zero, behind_line)
        (round_trip_all bits left r (rw residuals-length h) (residual_fits vs r h) ∙ residual_at (linear_line vs) vs r h)

    value_back : (r : ℕ) → r < length vs
        → value_in (Linear (linear_line vs) bits) (linear_of (written_head vs) fields).column (block_at [] (r / 512)) r (packed_of (linear_of (written_head vs) fields).column (block_at [] (r / 512)) column r) ≡ reads_as vs r
    unfolding value_in
    value_back r h =
        rw (
          packed_back r h,
          restored (linear_line vs) r (get_or vs r 0) (each r h),
          le-leb _ _ (least_most vs r h),
          mul_comm (gcd_of vs) (count_in vs),
          count_back vs,
          le-leb _ _ (greatest-least vs r h),
        )

pub linear_round : RoundTrips 1
linear_round vs each few applies = record {
  loaded = linear_of (written_head vs) (fields vs);
  opens = λ room enough. rw (column_is vs) (column_opens vs each few room);
  count = refl;
  shortest = refl;
  passes = rw (column_is vs) (column_passes vs each few);
  values = λ r h. rw (column_is vs) (value_back vs each few r h);
}

-- its size in the choice is the length of what it writes
pub linear_size : (vs : List ℕ) → 512 ≤ length vs → size_of 1 (stats_of vs) vs ≡ Some (length (body 1 (stats_of vs) vs))
unfolding size_of stats_of
linear_size vs h =
    let long : length (head_bytes vs) + length (line_bytes vs) + 1 + size vs ≡ length (body 1 (stats_of vs) vs) = omega (arith, column_length vs, ap length (column_is vs)) in
    rw (le-ltb (length vs) 512 h) (ap Some long)
