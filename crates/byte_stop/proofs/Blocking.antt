-- The loop over the blocks' fields: what is reached from a place on is what was to be reached.
--     place_behind                                            the place behind a block
--     Blocking, blocking_more, -stops, -ends                  the loop of `blocks`
-- Assumes nothing.
use Prim.Native.Nat.{ℕ, suc, ◌+◌, ◌-◌, ◌*◌, ◌≤◌, ◌<◌, min}
use mathlib.Core.Path.{◌≡◌, sym, ap, ◌∙◌}
use mathlib.Core.List.{List}
use native.Mathlib.Omega.{arith}
use Rattle.format.specs.declared.Fields.{Fields}
use Rattle.format.specs.declared.PartName.TheVariants.{BlockSlope, BlockIntercept, BlockWidth}
use Rattle.format.specs.declared.Stop.{Stop}
use Rattle.format.specs.Bodies.{block_count}
use Rattle.format.specs.Word.{bytes_for}
use Rattle.format.specs.Stops.{Reach, Reach.reached, Reach.stops, ◌>>=◌, reach_fields, reach_blocks}
use Rattle.blockwise_linear.specs.declared.reader.Cursor.{Cursor}
use Rattle.blockwise_linear.specs.Reader.{Small, up_to_length}

-- all blocks from a place on, the first being block k
abbrev from : (s : List ℕ) (k : ℕ) → Cursor → Reach ℕ
from s k c = reach_blocks k (block_count c.left) (up_to_length s) c.at c.start c.left

-- the fields of block k at a place
abbrev fields_at : (s : List ℕ) (k : ℕ) → Cursor → Reach Fields
fields_at s k c = reach_fields (BlockSlope k) (BlockIntercept k) (BlockWidth k) (up_to_length s) c.at

-- the place behind a block
abbrev pub place_behind : Cursor → (bits next : ℕ) → Cursor
place_behind c bits next = record { at = next; start = c.start + bytes_for (bits * min c.left 512); left = c.left - 512 }

-- k blocks are behind the place c
pub record Blocking (s : List ℕ) (first c : Cursor) (k : ℕ) : Type 0 where
  pub few : k + c.left ≤ first.left
  pub small : Small c
  pub rest : from s 0 first ≡ from s k c

module _ {s : List ℕ} {first c : Cursor} {k : ℕ} (b : Blocking s first c k) where
  -- a block, and those behind it
  one_more : 0 < c.left → from s k c ≡ (fields_at s k c >>= (λ (f : Fields). from s (suc k) (place_behind c f.bits f.next)))
  unfolding reach_blocks
  one_more h =
      let more : block_count c.left ≡ suc (block_count (c.left - 512)) = omega arith in
      ap (λ (n : ℕ). reach_blocks k n (up_to_length s) c.at c.start c.left) more

  pub blocking_more : 0 < c.left → (f : Fields) {next : Cursor} → fields_at s k c ≡ reached f → Small next → next ≡ place_behind c f.bits f.next → Blocking s first next (k + 1)
  blocking_more h f {next} e small is =
      let left : next.left ≡ c.left - 512 = ap (λ (d : Cursor). d.left) is in
      let one : suc k ≡ k + 1 = omega arith in
      record {
        few = omega (arith, b.few, left);
        small = small;
        rest =
            b.rest ∙ one_more h ∙ ap (λ (r : Reach Fields). r >>= (λ (g : Fields). from s (suc k) (place_behind c g.bits g.next))) e
            ∙ ap (from s (suc k)) (sym is) ∙ ap (λ (j : ℕ). from s j next) one;
      }

  pub blocking_stops : 0 < c.left → (t : Stop) → fields_at s k c ≡ stops t → stops t ≡ from s 0 first
  blocking_stops h t e =
      sym (b.rest ∙ one_more h ∙ ap (λ (r : Reach Fields). r >>= (λ (g : Fields). from s (suc k) (place_behind c g.bits g.next))) e)

  pub blocking_ends : c.left ≤ 0 → reached c.start ≡ from s 0 first
  unfolding reach_blocks
  blocking_ends h =
      let none : block_count c.left ≡ 0 = omega arith in
      sym (b.rest ∙ ap (λ (n : ℕ). reach_blocks k n (up_to_length s) c.at c.start c.left) none)
