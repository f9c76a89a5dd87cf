-- The whole body and its estimate, from what the blocks take.
--     above_of                                the values can be normalised by their own statistics
--     raw                                     by minimum 0 and gcd 1 they are themselves
--     takes_few                               fewer than 2^32 values take little, and their footer's length has four bytes
--     body-length, body_takes, wrote_body     the body, part by part
--     estimate_is, estimate_none              the estimate
-- Assumes nothing.
use Rattle.std.specs.Prelude.{Some}
use Prim.Native.Nat.{ℕ, ◌+◌, ◌-◌, ◌/◌, ◌^◌, ◌≤◌, ◌<◌}
use mathlib.Core.Path.{◌≡◌, refl, sym, ap, ap₂, ◌∙◌}
use mathlib.Core.List.{List, [], ◌∷◌, ◌++◌, map, append_assoc}
use native.Mathlib.Nat.{zero-add}
use native.Mathlib.Omega.{arith}
use lib.ListN.{length, take, drop, length-append}
use lib.Seq.{sets, sets-eq}
use Rattle.format.specs.declared.ColumnStats.{ColumnStats}
use Rattle.format.specs.Outcome.{Wrote}
use Rattle.format.specs.Packing.{num_bytes}
use Rattle.format.specs.Stats.{spell_head}
use Rattle.format.specs.Bodies.{normalised, blocks, footer, blockwise}
use Rattle.format.specs.Saving.{saving}
use Rattle.format.specs.Writing.{block_sizes, size_of}
use Rattle.format.proofs.BlockBytes.{areas_few, entries_few, shares}
use Rattle.format.proofs.Stores.{wrote_then, rest_room, rest_wrote}
use Rattle.format.proofs.Gathering.{length-num_bytes}
use Rattle.stats.specs.Asked.{Describes}
use Rattle.stats.proofs.Described.{sound_of, value_above}
use Rattle.blockwise_estimator.specs.declared.Sizes.{Sizes}
use Rattle.blockwise_estimator.specs.Writer.{normals, Above, areas, entries, Takes, FewBytes}

-- ---- the values, normalised

pub above_of : {s : ColumnStats} {vs : List ℕ} → Describes s vs → Above s.minimum s.gcd vs
above_of t = record { some = (sound_of t).some; each = value_above t }

pub raw : (vs : List ℕ) → normals 0 1 vs ≡ vs
raw [] = refl
raw (v ∷ vs) = ap₂ (λ (x : ℕ) (xs : List ℕ). x ∷ xs) (same v) (raw vs)
  where
    same : (v : ℕ) → (v - 0) / 1 ≡ v
    same v = omega arith

-- ---- what the blocks take

pub takes_few : (xs : List ℕ) (n : ℕ) {s : Sizes} → length xs ≡ n → n < 2 ^ 32 → Takes xs s → FewBytes s
takes_few xs n e h t = record { packs = omega (arith, t.packs, areas_few xs); fields = omega (arith, t.fields, entries_few xs) }

-- ---- the body

pub body-length : (s : ColumnStats) (vs : List ℕ)
    → length (blockwise s vs) ≡ length (spell_head s) + (length (areas (map (normalised s) vs)) + length (entries (map (normalised s) vs))) + 4
unfolding blockwise
body-length s vs =
    let a = areas (map (normalised s) vs) in
    let e = entries (map (normalised s) vs) in
    let four = num_bytes 4 (length e) in
    omega (arith, length-append (spell_head s) (a ++ (e ++ four)), length-append a (e ++ four), length-append e four, length-num_bytes 4 (length e))

-- the length that is worked out from what the blocks take is the body's
pub body_takes : (s : ColumnStats) (vs : List ℕ) {sizes : Sizes} → Takes (map (normalised s) vs) sizes
    → length (spell_head s) + (sizes.area + sizes.footer) + 4 ≡ length (blockwise s vs)
body_takes s vs t = rw (t.packs, t.fields) (sym (body-length s vs))

-- the head, and areas, entries and the footer's length in the output behind it
pub wrote_body : (s : ColumnStats) (vs : List ℕ) {o l last : List ℕ} {at i r : ℕ} (size : ℕ) → Wrote o at (spell_head s) l i → length l ≡ length o
    → at + length (blockwise s vs) ≤ length o → size ≡ length (entries (map (normalised s) vs))
    → Wrote (take (length l - i) (drop i l)) 0 ((areas (map (normalised s) vs) ++ entries (map (normalised s) vs)) ++ num_bytes 4 size) last r
    → Wrote o at (blockwise s vs) (take i l ++ (last ++ drop (length l - i) (drop i l))) (i + r)
unfolding blockwise
wrote_body s vs {o} {l} {last} {at} {i} {r} size head kept room e w =
    let packs = areas (map (normalised s) vs) in
    let es = entries (map (normalised s) vs) in
    let front = (packs ++ es) ++ num_bytes 4 size in
    let part = take (length l - i) (drop i l) in
    let there : i + length front ≤ length o =
    omega (arith, head.ends, body-length s vs, length-append (packs ++ es) (num_bytes 4 size), length-append packs es, length-num_bytes 4 size) in
    let inside : 0 + length front ≤ length part = omega (arith, rest_room l o i kept there) in
    let long : r ≡ length front = w.ends ∙ zero-add (length front) in
    let filled : last ≡ front ++ drop (length front) part = w.list ∙ sets-eq front part 0 inside ∙ ap (λ (k : ℕ). front ++ drop k part) (zero-add (length front)) in
    let whole = rest_wrote i (length front) front l o last refl kept there filled in
    let same : front ≡ packs ++ (es ++ num_bytes 4 (length es)) = ap (λ (k : ℕ). (packs ++ es) ++ num_bytes 4 k) e ∙ append_assoc packs es (num_bytes 4 (length es)) in
    wrote_then head (record { ends = ap (λ (k : ℕ). i + k) (long ∙ ap length same); list = whole.list ∙ ap (λ (f : List ℕ). sets l i f) same })

-- ---- the estimate, from what the blocks of the values as they stand take

module _ (s : ColumnStats) (vs : List ℕ) (sizes : Sizes) (whole less : ℕ) (t : Takes (normals 0 1 vs) sizes)
    (w : whole ≡ length (spell_head s) + (sizes.area + sizes.footer) + 4) (l : less ≡ saving s.gcd s.rows) where
  whole_is : whole ≡ 4 + length (spell_head s) + block_sizes (blocks vs)
  unfolding footer
  whole_is =
      let packs : sizes.area ≡ length (areas vs) = t.packs ∙ ap (λ (l : List ℕ). length (areas l)) (raw vs) in
      let fields : sizes.footer ≡ length (entries vs) = t.fields ∙ ap (λ (l : List ℕ). length (entries l)) (raw vs) in
      omega (arith, shares (blocks vs))

  pub estimate_is : Some (whole - less) ≡ size_of 2 s vs
  unfolding size_of
  estimate_is = rw (whole_is, l)

  -- never below 0
  pub estimate_none : whole < less → Some 0 ≡ size_of 2 s vs
  estimate_none h =
      let none : 0 ≡ whole - less = omega arith in
      rw none estimate_is
