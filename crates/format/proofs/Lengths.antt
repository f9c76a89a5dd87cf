-- How long a written column is, beside its estimate (`lengths`).
--     exact     Bitpacked and Linear
--     near      Blockwise with gcd 1; `nine_met` has a column that takes all nine bytes, `nine_passed` one of a larger gcd that takes more
-- Assumes nothing.
use Rattle.std.specs.Prelude.{Some}
use mathlib.Core.Path.{◌≡◌, refl, sym, ap, ◌∙◌, subst}
use mathlib.Core.List.{List, [], ◌∷◌, ◌++◌, map}
use Prim.Native.Nat.{ℕ, zero, suc, ◌+◌, ◌-◌, ◌*◌, ◌/◌, ◌^◌, ◌≤◌, ◌<◌, suc-le-suc}
use native.Mathlib.Nat.{not-suc-le-zero, le_of_suc-le-suc, zero-lt-suc, mul-le-mul_right, div-one}
use native.Mathlib.Omega.{arith}
use lib.ListN.{length, take, drop, get_or, length-append, length-map, length-take, length-drop}
use lib.Seq.{get_or-take, get_or-drop}
use Rattle.format.specs.declared.ColumnStats.{ColumnStats}
use Rattle.format.specs.Word.{bytes_for, mod_add, mod_sub, AllBelow}
use Rattle.format.specs.Varint.{spell, spell_in}
use Rattle.format.specs.Packing.{width, bit_length, bits_in, packed, bytes_of, rows_bits, bits_of, num_of, num_bytes}
use Rattle.format.specs.Stats.{stats_of, spell_head, least, reduce, fold_from, greatest, gcd, euclid}
use Rattle.format.specs.Line.{trained, spell_line, residuals, residuals_from, line_at, rising, height, slope_of, nearer}
use Rattle.format.specs.Bodies.{normalised, blocks, blocks_in, block_count, block_residuals, block_width, block_area, block_entry, joined, footer, blockwise, body, column_by}
use Rattle.format.specs.Saving.{saving, exponent_of, last_reached, power_bounds, reaches, in_f32, nearest}
use Rattle.format.specs.Writing.{block_size, block_sizes, size_of}
use Rattle.format.specs.Demands.{Applies}
use Rattle.format.specs.Lengths.{WroteBy, Exact, moved, Near, Lengths}
use Rattle.format.proofs.Lists.{take-map, drop-map, all_first, all_rest, all_take, all_drop}
use Rattle.format.proofs.Widths.{width_mono}
use Rattle.format.proofs.Varints.{spell_ten, spell_some}
use Rattle.format.proofs.Gathering.{length-num_bytes}
use Rattle.format.proofs.Statistics.{least_most}
use Rattle.format.proofs.Savings.{one_saves_nothing}
use Rattle.format.proofs.Moved.{trains_alike}
use Rattle.format.proofs.Writes.{written_as}
use Rattle.format.proofs.Bitpacked.{bitpacked_size}
use Rattle.format.proofs.Linear.{linear_size}
use Rattle.format.proofs.BlockBytes.{shares}
use Rattle.format.proofs.Spellings.{line_length_lem}

-- ---- a block of moved values

-- no value is moved up
abbrev Lowers : ℕ → List ℕ → Type 0
Lowers t ys = (i : ℕ) → i < length ys → mod_add (get_or ys i 0) t ≤ get_or ys i 0

spell_nine : (v w : ℕ) → length (spell v) ≤ length (spell w) + 9
unfolding spell
spell_nine v w = omega (arith, spell_ten v, spell_some 9 w)

-- more bits fill no fewer bytes
bytes_mono : (a b : ℕ) → a ≤ b → bytes_for a ≤ bytes_for b
bytes_mono a b h = omega arith

-- of one value the line stays, and the residual is the value
alone_width : (y : ℕ) → y < 2 ^ 64 → block_width (y ∷ []) ≡ width y
unfolding block_width block_residuals residuals residuals_from trained line_at reduce fold_from
alone_width y h =
    let same : mod_sub y 0 ≡ y = omega arith in
    ap width same

-- a block's share grows by nine bytes at most, those of the intercept's spelling
more_near : (t : ℕ) (ys : List ℕ) → AllBelow (2 ^ 64) ys → 2 ≤ length ys → block_size (moved t ys) ≤ block_size ys + 9
unfolding block_size
more_near t ys each h =
    let same = trains_alike t ys each h in
    let bits : block_width (moved t ys) ≡ block_width ys = unfold block_width in ap (λ (rs : List ℕ). width (greatest rs)) same.residuals in
    let bytes : bytes_for (block_width (moved t ys) * length (moved t ys)) ≡ bytes_for (block_width ys * length ys) =
    ap (λ (w : ℕ). bytes_for (w * length (moved t ys))) bits ∙ ap (λ (n : ℕ). bytes_for (block_width ys * n)) (length-map ys (λ (v : ℕ). mod_add v t)) in
    let slope : length (spell (trained (moved t ys)).slope) ≡ length (spell (trained ys).slope) = ap (λ (v : ℕ). length (spell v)) same.slope in
    omega (arith, line_length_lem (trained (moved t ys)), line_length_lem (trained ys), spell_nine (trained (moved t ys)).intercept (trained ys).intercept)

alone_near : (t y : ℕ) → y < 2 ^ 64 → mod_add y t ≤ y → block_size (mod_add y t ∷ []) ≤ block_size (y ∷ []) + 9
unfolding block_size trained
alone_near t y here less =
    let narrow : width (mod_add y t) * 1 ≤ width y * 1 = mul-le-mul_right 1 (width_mono (mod_add y t) y less) in
    rw (alone_width (mod_add y t) (omega arith), alone_width y here) (omega (arith, bytes_mono (width (mod_add y t) * 1) (width y * 1) narrow))

block_near : (t : ℕ) (ys : List ℕ) → AllBelow (2 ^ 64) ys → Lowers t ys → block_size (moved t ys) ≤ block_size ys + 9
block_near t [] each low = omega arith
block_near t (y ∷ []) each low = alone_near t y (each 0 (zero-lt-suc 0)) (low 0 (zero-lt-suc 0))
block_near t (y ∷ z ∷ ys) each low = more_near t (y ∷ z ∷ ys) each (suc-le-suc (zero-lt-suc _))

-- ---- all blocks

lowers_take : (t n : ℕ) (ys : List ℕ) → Lowers t ys → Lowers t (take n ys)
lowers_take t n ys low i h = rw (get_or-take n ys i 0 (omega (arith, length-take n ys))) (low i (omega (arith, length-take n ys)))

lowers_drop : (t n : ℕ) (ys : List ℕ) → Lowers t ys → Lowers t (drop n ys)
lowers_drop t n ys low i h = rw (get_or-drop n ys i 0) (low (n + i) (omega (arith, length-drop n ys)))

blocks-near : (t k : ℕ) (vs : List ℕ) → AllBelow (2 ^ 64) vs → Lowers t vs → block_sizes (blocks_in k (moved t vs)) ≤ block_sizes (blocks_in k vs) + 9 * k
unfolding block_sizes blocks_in
blocks-near t zero vs each low = omega arith
blocks-near t (suc k) vs each low =
    let f : ℕ → ℕ = λ (v : ℕ). mod_add v t in
    let first = block_near t (take 512 vs) (all_take 512 vs each) (lowers_take t 512 vs low) in
    let rest = blocks-near t k (drop 512 vs) (all_drop 512 vs each) (lowers_drop t 512 vs low) in
    rw (← take-map f 512 vs, ← drop-map f 512 vs) (omega arith)

-- ---- with gcd 1, normalising moves each value down by the minimum

lowered : (m v : ℕ) → v < 2 ^ 64 → m ≤ v → mod_add v (2 ^ 64 - m) ≡ v - m
lowered m v h g = omega arith

normals-moved : (s : ColumnStats) (vs : List ℕ) → s.gcd ≡ 1 → AllBelow (2 ^ 64) vs → ((i : ℕ) → i < length vs → s.minimum ≤ get_or vs i 0)
    → map (normalised s) vs ≡ moved (2 ^ 64 - s.minimum) vs
normals-moved s [] one each low = refl
normals-moved s (v ∷ vs) one each low =
    let t = 2 ^ 64 - s.minimum in
    let here : normalised s v ≡ mod_add v t = ap (λ (g : ℕ). (v - s.minimum) / g) one ∙ div-one (v - s.minimum) ∙ sym (lowered s.minimum v (all_first vs each) (low 0 (zero-lt-suc _))) in
    ap (λ (n : ℕ). n ∷ map (normalised s) vs) here ∙ ap (λ (l : List ℕ). mod_add v t ∷ l) (normals-moved s vs one (all_rest vs each) (λ i h. low (suc i) (suc-le-suc h)))

-- ---- Blockwise's body

-- its length, by its blocks' shares
blockwise-length : (s : ColumnStats) (vs : List ℕ) → length (blockwise s vs) ≡ 4 + length (spell_head s) + block_sizes (blocks (map (normalised s) vs))
unfolding blockwise footer
blockwise-length s vs =
    let bs = blocks (map (normalised s) vs) in
    let areas = joined block_area bs in
    let foot = joined block_entry bs in
    omega (arith, length-append (spell_head s) (areas ++ (foot ++ num_bytes 4 (length foot))), length-append areas (foot ++ num_bytes 4 (length foot)), length-append foot (num_bytes 4 (length foot)), length-num_bytes 4 (length foot), shares bs)

-- with gcd 1 nothing is thought to be saved
plain_size : (s : ColumnStats) (vs : List ℕ) → s.gcd ≡ 1 → size_of 2 s vs ≡ Some (4 + length (spell_head s) + block_sizes (blocks vs))
unfolding size_of
plain_size s vs one =
    let whole = 4 + length (spell_head s) + block_sizes (blocks vs) in
    let none : whole - 0 ≡ whole = omega arith in
    ap (λ (n : ℕ). Some (whole - n)) (ap (λ (g : ℕ). saving g s.rows) one ∙ one_saves_nothing s.rows) ∙ ap Some none

-- the blocks of normalised values
sizes-near : (vs : List ℕ) → (stats_of vs).gcd ≡ 1 → AllBelow (2 ^ 64) vs
    → block_sizes (blocks (map (normalised (stats_of vs)) vs)) ≤ block_sizes (blocks vs) + 9 * block_count (length vs)
unfolding blocks stats_of
sizes-near vs one each =
    let t = 2 ^ 64 - least vs in
    let low : Lowers t vs = λ i h. subst (λ (n : ℕ). n ≤ get_or vs i 0) (sym (lowered (least vs) (get_or vs i 0) (each i h) (least_most vs i h))) (omega arith) in
    rw (normals-moved (stats_of vs) vs one each (λ i h. least_most vs i h), length-map vs (λ (v : ℕ). mod_add v t)) (blocks-near t (block_count (length vs)) vs each low)

-- ---- the theorems

some_same : (a b : ℕ) → Some a ≡ Some b → a ≡ b
some_same a b e = cc

-- what was written, by its code byte
by_code : (codec : ℕ) (vs cs bytes : List ℕ) (room estimate : ℕ) → WroteBy codec vs cs room estimate bytes → (length bytes ≡ suc (length (body codec (stats_of vs) vs))) × Applies codec vs
by_code codec vs cs bytes room estimate w =
    let known = written_as vs cs bytes room w.column in
    let same : known.codec ≡ codec = sym (ap (λ (l : List ℕ). get_or l 0 0) known.is) ∙ w.code in
    (ap length (known.is ∙ ap (λ (c : ℕ). column_by c vs) same), subst (λ (c : ℕ). Applies c vs) same known.applies)

pub exact : Exact
exact zero vs cs bytes room estimate h w =
    let told : length (body 0 (stats_of vs) vs) ≡ estimate = some_same _ _ (sym (bitpacked_size vs) ∙ w.estimated) in
    omega (arith, (by_code 0 vs cs bytes room estimate w).0)
exact (suc zero) vs cs bytes room estimate h w =
    let long = by_code 1 vs cs bytes room estimate w in
    let told : length (body 1 (stats_of vs) vs) ≡ estimate = some_same _ _ (sym (linear_size vs long.1) ∙ w.estimated) in
    omega (arith, long.0)
exact (suc (suc codec)) vs cs bytes room estimate h w = absurd (not-suc-le-zero (le_of_suc-le-suc (le_of_suc-le-suc h)))

pub near : Near
near vs cs bytes room estimate each one w =
    let long = (by_code 2 vs cs bytes room estimate w).0 in
    let is : length (body 2 (stats_of vs) vs) ≡ length (blockwise (stats_of vs) vs) = unfold body in refl in
    let told : 4 + length (spell_head (stats_of vs)) + block_sizes (blocks vs) ≡ estimate = some_same _ _ (sym (plain_size (stats_of vs) vs one) ∙ w.estimated) in
    omega (arith, sizes-near vs one each, blockwise-length (stats_of vs) vs)

pub lengths : Lengths
lengths = (exact, trains_alike, near)

-- ---- how near the bounds are

-- the nine bytes are met: 100, 103, 300 have the intercept 3, and less their minimum one of ten bytes
abbrev dip : List ℕ
dip = 100 ∷ 103 ∷ 300 ∷ []

pub nine_met : (size_of 2 (stats_of dip) dip ≡ Some 20) × (length (column_by 2 dip) ≡ 1 + 20 + 9)
unfolding size_of stats_of reduce fold_from gcd euclid spell_head spell spell_in blocks blocks_in block_sizes block_size spell_line trained rising height slope_of nearer residuals residuals_from line_at block_width block_residuals width bit_length bits_in saving exponent_of last_reached power_bounds reaches in_f32 nearest body blockwise joined block_area block_entry footer packed bytes_of rows_bits bits_of num_of num_bytes
nine_met = (refl, refl)

-- a larger gcd has no such bound: eight steps of 2^16 lie on a line either way, and the estimate takes off what the gcd is thought to save all the same
abbrev steps : List ℕ
steps = map (λ (k : ℕ). k * 2 ^ 16) (0 ∷ 1 ∷ 2 ∷ 3 ∷ 4 ∷ 5 ∷ 6 ∷ 7 ∷ [])

pub nine_passed : (size_of 2 (stats_of steps) steps ≡ Some 3) × (length (column_by 2 steps) ≡ 1 + 17)
unfolding size_of stats_of reduce fold_from gcd euclid spell_head spell spell_in blocks blocks_in block_sizes block_size spell_line trained rising height slope_of nearer residuals residuals_from line_at block_width block_residuals width bit_length bits_in saving exponent_of last_reached power_bounds reaches in_f32 nearest body blockwise joined block_area block_entry footer packed bytes_of rows_bits bits_of num_of num_bytes
nine_passed = (refl, refl)
