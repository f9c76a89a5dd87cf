-- The walks over all blocks: what holds where a block begins, and what a turn makes of it.
--     Measuring, measuring_next, measuring_ends               adding up what the blocks take
--     Placing, placing_room, placing_next, placing_ends       writing them, at two places
-- Assumes nothing.
use Prim.Native.Nat.{ℕ, ◌+◌, ◌-◌, ◌*◌, ◌≤◌, ◌<◌, min}
use mathlib.Core.Path.{◌≡◌, sym, ap, ap₂, ◌∙◌}
use mathlib.Core.List.{List, [], ◌++◌}
use native.Mathlib.Omega.{arith}
use lib.ListN.{length, take, drop, length-append, length-drop}
use lib.Seq.{sets, length-sets, length-take-le}
use Rattle.format.specs.Outcome.{Wrote}
use Rattle.format.specs.Bodies.{block_area, block_entry, footer}
use Rattle.format.proofs.Stores.{sets-append, sets-apart}
use Rattle.format.proofs.WrittenBlocks.{entry_most}
use Rattle.blockwise_estimator.specs.declared.Fronts.{Fronts}
use Rattle.blockwise_estimator.specs.declared.Sizes.{Sizes}
use Rattle.blockwise_estimator.specs.Writer.{areas, entries, BlockTakes, Takes, Places, Placed}
use Rattle.format.proofs.BlockBytes.{area_most}
use Rattle.blockwise_estimator.proofs.Blocks.{joined_next, joined_none}

-- the rows of the block that begins at `at`, and what is left behind it
module _ (xs : List ℕ) (at size : ℕ) (h : at < length xs) (e : size ≡ min 512 (length xs - at)) where
  part_length : length (take size (drop at xs)) ≡ size
  part_length = length-take-le size (drop at xs) (omega (arith, length-drop at xs))

  areas_next : areas (drop at xs) ≡ block_area (take size (drop at xs)) ++ areas (drop (at + 512) xs)
  areas_next = joined_next block_area xs at size h e

  entries_next : entries (drop at xs) ≡ block_entry (take size (drop at xs)) ++ entries (drop (at + 512) xs)
  unfolding footer
  entries_next = joined_next block_entry xs at size h e

  areas_parted : length (areas (drop at xs)) ≡ length (block_area (take size (drop at xs))) + length (areas (drop (at + 512) xs))
  areas_parted = ap length areas_next ∙ length-append (block_area (take size (drop at xs))) (areas (drop (at + 512) xs))

  entries_parted : length (entries (drop at xs)) ≡ length (block_entry (take size (drop at xs))) + length (entries (drop (at + 512) xs))
  entries_parted = ap length entries_next ∙ length-append (block_entry (take size (drop at xs))) (entries (drop (at + 512) xs))

-- no rows are left
areas_none : (xs : List ℕ) (at : ℕ) → length xs ≤ at → areas (drop at xs) ≡ []
areas_none xs at h = joined_none block_area xs at h

entries_none : (xs : List ℕ) (at : ℕ) → length xs ≤ at → entries (drop at xs) ≡ []
unfolding footer
entries_none xs at h = joined_none block_entry xs at h

-- ---- measuring: what the blocks passed take and what those from `at` on take make the whole
pub record Measuring (xs : List ℕ) (rows area footer at : ℕ) : Type 0 where
  pub count : length xs ≡ rows
  pub packs : area + length (areas (drop at xs)) ≡ length (areas xs)
  pub fields : footer + length (entries (drop at xs)) ≡ length (entries xs)
  pub area_few : area ≤ 8 * min at rows
  pub footer_few : footer ≤ 21 * min at rows

module _ {xs : List ℕ} {rows area footer at : ℕ} (m : Measuring xs rows area footer at) where
  pub measuring_next : {size : ℕ} {s : Sizes} → at < rows → size ≡ min 512 (rows - at) → BlockTakes (take size (drop at xs)) s
      → Measuring xs rows (area + s.area) (footer + s.footer) (at + 512)
  measuring_next {size} {s} below cut t =
      let h : at < length xs = rw m.count below in
      let e : size ≡ min 512 (length xs - at) = rw m.count cut in
      let ys = take size (drop at xs) in
      let long = part_length xs at size h e in
      record {
        count = m.count;
        packs = omega (arith, m.packs, t.packs, areas_parted xs at size h e);
        fields = omega (arith, m.fields, t.fields, entries_parted xs at size h e);
        area_few = omega (arith, m.area_few, t.packs, area_most ys);
        footer_few = omega (arith, m.footer_few, t.fields, entry_most ys);
      }

  pub measuring_ends : rows ≤ at → Takes xs (record { area = area; footer = footer })
  measuring_ends done =
      let h : length xs ≤ at = rw m.count done in
      let a = ap length (areas_none xs at h) in
      let b = ap length (entries_none xs at h) in
      record { packs = omega (arith, m.packs); fields = omega (arith, m.fields) }

-- ---- writing at two places: the areas of the blocks from `at` on go to p, and their entries to q, behind all areas
pub record Placing (xs : List ℕ) (rows : ℕ) (old : List ℕ) (start mid : ℕ) (out : List ℕ) (p q at : ℕ) : Type 0 where
  pub count : length xs ≡ rows
  pub areas_end : p + length (areas (drop at xs)) ≡ mid
  pub behind : mid ≤ q
  pub entries_end : q + length (entries (drop at xs)) ≡ mid + length (entries xs)
  pub kept : length out ≡ length old
  pub list : sets (sets out p (areas (drop at xs))) q (entries (drop at xs)) ≡ sets (sets old start (areas xs)) mid (entries xs)

-- bytes at two places, then more behind each: the same as all at once
both : (old : List ℕ) (p q : ℕ) (a more e es : List ℕ) → p + length (a ++ more) ≤ q
    → sets (sets (sets (sets old p a) q e) (p + length a) more) (q + length e) es ≡ sets (sets old p (a ++ more)) q (e ++ es)
both old p q a more e es h =
    let room : p + length a + length more ≤ q = omega (arith, length-append a more) in
    ap (λ (l : List ℕ). sets l (q + length e) es) (sym (sets-apart more (sets old p a) (p + length a) q e room) ∙ ap (λ (l : List ℕ). sets l q e) (sets-append a old p more))
    ∙ sets-append e (sets old p (a ++ more)) q es

module _ {xs : List ℕ} {rows : ℕ} {old : List ℕ} {start mid : ℕ} {out : List ℕ} {p q at : ℕ} (f : Placing xs rows old start mid out p q at) where
  -- there is room for the next block
  pub placing_room : {size : ℕ} → at < rows → size ≡ min 512 (rows - at) → mid + length (entries xs) ≤ length old → Places (take size (drop at xs)) out p q
  placing_room {size} below cut room =
      let h : at < length xs = rw f.count below in
      let e : size ≡ min 512 (length xs - at) = rw f.count cut in
      let a = areas_parted xs at size h e in
      let b = entries_parted xs at size h e in
      record {
        first = omega (arith, f.areas_end, f.behind, f.entries_end, f.kept);
        second = omega (arith, f.entries_end, f.kept);
      }

  pub placing_next : {size : ℕ} {new : List ℕ} {next : Fronts} → at < rows → size ≡ min 512 (rows - at)
      → Placed (take size (drop at xs)) out p q new next
      → Placing xs rows old start mid new next.area next.footer (at + 512)
  placing_next {size} {new} {next} below cut w =
      let h : at < length xs = rw f.count below in
      let e : size ≡ min 512 (length xs - at) = rw f.count cut in
      let ys = take size (drop at xs) in
      let a = areas_parted xs at size h e in
      let b = entries_parted xs at size h e in
      let room : p + length (block_area ys ++ areas (drop (at + 512) xs)) ≤ q = omega (arith, f.areas_end, f.behind, ap length (areas_next xs at size h e)) in
      record {
        count = f.count;
        areas_end = omega (arith, f.areas_end, w.behind_area);
        behind = omega (arith, f.behind, w.behind_entry);
        entries_end = omega (arith, f.entries_end, w.behind_entry);
        kept = rw (w.list, length-sets, length-sets) f.kept;
        list =
            rw (w.list, w.behind_area, w.behind_entry)
            (both out p q (block_area ys) (areas (drop (at + 512) xs)) (block_entry ys) (entries (drop (at + 512) xs)) room
            ∙ ap₂ (λ (x y : List ℕ). sets (sets out p x) q y) (sym (areas_next xs at size h e)) (sym (entries_next xs at size h e)) ∙ f.list);
      }

  -- all are written: the areas, and behind them the entries
  pub placing_ends : rows ≤ at → mid ≡ start + length (areas xs) → Wrote old start (areas xs ++ entries xs) out q
  placing_ends done e =
      let h : length xs ≤ at = rw f.count done in
      let a = areas_none xs at h in
      let b = entries_none xs at h in
      record {
        ends = omega (arith, f.entries_end, ap length b, length-append (areas xs) (entries xs));
        list =
            sym (ap₂ (λ (x y : List ℕ). sets (sets out p x) q y) a b) ∙ f.list ∙ ap (λ (n : ℕ). sets (sets old start (areas xs)) n (entries xs)) e
            ∙ sets-append (areas xs) old start (entries xs);
      }
