-- How long a column can get, by its rows alone.
--     bounded             by its code byte
--     reserved, roomy     by any: no column is longer, and no output of that length too short
--     capped, planned     where Bitpacked is listed: the estimate of what is chosen, and what is written with gcd 1
-- Assumes nothing.
use Rattle.std.specs.Prelude.{Some}
use mathlib.Core.Path.{◌≡◌, refl, sym, ap, ◌∙◌, subst}
use mathlib.Core.Logic.{⊎_elim}
use mathlib.Core.List.{List, [], ◌∷◌, ◌++◌, map}
use Prim.Native.Nat.{ℕ, zero, suc, ◌+◌, ◌*◌, ◌≤◌, ◌<◌}
use native.Mathlib.Nat.{le_trans, mul-le-mul_right}
use native.Mathlib.Omega.{arith}
use lib.Dec.{leb}
use lib.ListN.{length, get_or, length-append, length-map}
use borrow.Author.Tests.{le-leb}
use Rattle.format.specs.declared.ColumnStats.{ColumnStats}
use Rattle.format.specs.Outcome.{Outcome, Outcome.value, Outcome.refusal}
use Rattle.format.specs.Word.{bytes_for}
use Rattle.format.specs.Packing.{width, packed, num_bytes}
use Rattle.format.specs.Stats.{stats_of, count_of, spell_head}
use Rattle.format.specs.Line.{spell_line, residuals}
use Rattle.format.specs.Bodies.{normalised, linear_line, linear_width, bitpacked, linear, blocks, block_count, block_area, joined, footer, blockwise, body, column_by}
use Rattle.format.specs.Writing.{size_of, written}
use Rattle.format.specs.Lengths.{WroteBy, most_bytes, reserve, Bounded, Reserved, Capped, Roomy, Planned}
use Rattle.format.proofs.Lists.{below_or}
use Rattle.format.proofs.Outcomes.{not_value, value_same, by_demand}
use Rattle.format.proofs.Widths.{width_most}
use Rattle.format.proofs.Packing.{length-packed}
use Rattle.format.proofs.Gathering.{length-num_bytes}
use Rattle.format.proofs.Lines.{residuals-length}
use Rattle.format.proofs.Choosing.{Earliest}
use Rattle.format.proofs.Writes.{sizes, Chosen, Verdict, Verdict.many, Verdict.unknown, Verdict.nothing, Verdict.writes, verdict, said, written_said, written_as}
use Rattle.format.proofs.BlockBytes.{areas_few, entries_few}
use Rattle.format.proofs.Spellings.{head_few, line_few}
use Rattle.format.proofs.Lengths.{exact, near}

-- ---- the parts

-- at most eight bytes a row
area_most : (n rows : ℕ) → bytes_for (width n * rows) ≤ 8 * rows
area_most n rows = omega (arith, mul-le-mul_right rows (width_most n))

-- ---- the bodies

bitpacked_most : (s : ColumnStats) (vs : List ℕ) → length (bitpacked s vs) ≤ 40 + 8 * length vs
unfolding bitpacked
bitpacked_most s vs =
    let bits = width (count_of s) in
    let ns = map (normalised s) vs in
    let area : length (packed bits ns) ≡ bytes_for (bits * length vs) = length-packed bits ns ∙ ap (λ (n : ℕ). bytes_for (bits * n)) (length-map vs (normalised s)) in
    omega (arith, length-append (spell_head s) (packed bits ns), head_few s, area_most (count_of s) (length vs))

linear_most : (s : ColumnStats) (vs : List ℕ) → length (linear s vs) ≤ 61 + 8 * length vs
unfolding linear linear_width
linear_most s vs =
    let bits = linear_width vs in
    let line = linear_line vs in
    let area : length (packed bits (residuals line vs)) ≡ bytes_for (bits * length vs) = length-packed bits (residuals line vs) ∙ ap (λ (n : ℕ). bytes_for (bits * n)) (residuals-length line vs) in
    let few : bytes_for (bits * length vs) ≤ 8 * length vs = area_most _ (length vs) in
    omega (arith, length-append (spell_head s) (spell_line line ++ (bits ∷ packed bits (residuals line vs))), length-append (spell_line line) (bits ∷ packed bits (residuals line vs)), head_few s, line_few line)

blockwise_most : (s : ColumnStats) (vs : List ℕ) → length (blockwise s vs) ≤ 44 + 8 * length vs + 21 * block_count (length vs)
unfolding blockwise
blockwise_most s vs =
    let ns = map (normalised s) vs in
    let areas = joined block_area (blocks ns) in
    let foot = footer (blocks ns) in
    let long : length ns ≡ length vs = length-map vs (normalised s) in
    let few : length areas ≤ 8 * length vs = subst (λ (n : ℕ). length areas ≤ 8 * n) long (areas_few ns) in
    let entries : length foot ≤ 21 * block_count (length vs) = subst (λ (n : ℕ). length foot ≤ 21 * block_count n) long (entries_few ns) in
    omega (arith, length-append (spell_head s) (areas ++ (foot ++ num_bytes 4 (length foot))), length-append areas (foot ++ num_bytes 4 (length foot)), length-append foot (num_bytes 4 (length foot)), length-num_bytes 4 (length foot), head_few s)

column_most : (codec : ℕ) (vs : List ℕ) → length (column_by codec vs) ≤ most_bytes codec (length vs)
unfolding most_bytes body
column_most zero vs = omega (arith, bitpacked_most (stats_of vs) vs)
column_most (suc zero) vs = omega (arith, linear_most (stats_of vs) vs)
column_most (suc (suc c)) vs = omega (arith, blockwise_most (stats_of vs) vs)

-- ---- what was written

pub bounded : Bounded
bounded vs cs bytes room e =
    let known = written_as vs cs bytes room e in
    rw known.is (column_most known.codec vs)

-- the choice that it comes of
chosen_of : (vs cs bytes : List ℕ) (room : ℕ) → written vs cs room ≡ value bytes → (c : Chosen vs cs) × (bytes ≡ column_by c.best.codec vs)
chosen_of vs cs bytes room e = go (verdict vs cs) (sym (written_said vs cs room (verdict vs cs)) ∙ e)
  where
    go : (v : Verdict vs cs) → said v room ≡ value bytes → (c : Chosen vs cs) × (bytes ≡ column_by c.best.codec vs)
    go (many h) f = absurd (not_value f)
    go (unknown few u) f = absurd (not_value f)
    go (nothing few k n) f = absurd (not_value f)
    go (writes few k c) f = by_demand (leb (length (column_by c.best.codec vs)) room) 4 _ _ f λ enough f. (c, sym (value_same f))

-- Bitpacked's own size
bitpacked_capped : (vs : List ℕ) → (n : ℕ) × (size_of 0 (stats_of vs) vs ≡ Some n) × (1 + n ≤ most_bytes 0 (length vs))
unfolding size_of stats_of most_bytes
bitpacked_capped vs = (_, refl, omega (arith, head_few (stats_of vs), area_most (count_of (stats_of vs)) (length vs)))

pub capped : Capped
capped vs cs bytes room listed e =
    let c = chosen_of vs cs bytes room e in
    let best = c.0.best in
    let first : Earliest (sizes vs) cs best = c.0.earliest in
    let code : get_or bytes 0 0 ≡ best.codec = ap (λ (l : List ℕ). get_or l 0 0) c.1 in
    let own = bitpacked_capped vs in
    let least : best.size ≤ own.0 = first.least listed.0 own.0 listed.1 (ap (sizes vs) listed.2 ∙ own.1) in
    (best.size, record { column = e; code = refl; estimated = ap (sizes vs) (code ∙ first.codec) ∙ first.has }, omega (arith, own.2))

-- ---- room for any column

reserve_most : (codec rows : ℕ) → most_bytes codec rows ≤ reserve rows
unfolding most_bytes
reserve_most zero rows = omega arith
reserve_most (suc zero) rows = omega arith
reserve_most (suc (suc c)) rows = omega arith

pub reserved : Reserved
reserved vs cs bytes room e = le_trans (bounded vs cs bytes room e) (reserve_most (get_or bytes 0 0) (length vs))

-- refusals of one outcome have one number
number_same : {A : Type 0} (m n : ℕ) (xs ys : List ℕ) → ◌≡◌ {A = Outcome A} (refusal m xs) (refusal n ys) → m ≡ n
number_same m n xs ys e = cc

pub roomy : Roomy
roomy vs cs also room h e = go (verdict vs cs) (sym (written_said vs cs room (verdict vs cs)) ∙ e)
  where
    go : (v : Verdict vs cs) → said v room ≡ refusal 4 also → ⊥
    go (many l) f = let z = number_same 1 4 [] also f in omega arith
    go (unknown few u) f = let z = number_same 2 4 (u.place ∷ []) also f in omega arith
    go (nothing few k n) f = let z = number_same 3 4 [] also f in omega arith
    go (writes few k c) f =
        let codec = c.best.codec in
        let long : length (column_by codec vs) ≤ room = le_trans (column_most codec vs) (le_trans (reserve_most codec (length vs)) h) in
        not_value (sym (rw (le-leb (length (column_by codec vs)) room long) at f))

-- ---- with Bitpacked listed, and gcd 1

pub planned : Planned
planned vs cs bytes room each one listed e =
    let c = capped vs cs bytes room listed e in
    let known = written_as vs cs bytes room e in
    let code : get_or bytes 0 0 ≡ known.codec = ap (λ (l : List ℕ). get_or l 0 0) known.is in
    ⊎_elim
    (λ (h : get_or bytes 0 0 < 2). omega (arith, exact (get_or bytes 0 0) vs cs bytes room c.0 h c.1, c.2))
    (λ (h : 2 ≤ get_or bytes 0 0).
    let two : get_or bytes 0 0 ≡ 2 = omega (arith, known.known) in
    omega (arith, near vs cs bytes room c.0 each one (subst (λ (k : ℕ). WroteBy k vs cs room c.0 bytes) two c.1), c.2))
    (below_or (get_or bytes 0 0) 2)
