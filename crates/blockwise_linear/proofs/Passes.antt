-- What is known while the blocks are checked, and while the table is filled; a block carries it on.
--     by_block                                          the blocks from a place on are the block there, and those from the place behind it
--     step_small                                        the place behind a block
--     Checking, checking_more, -refused, -ends
--                                                       the first pass
--     BlocksPut, filling_good, -more, -ends             the second
-- Assumes nothing.
use Rattle.std.specs.Option.{option_or}
use Rattle.std.specs.Prelude.{Option, Some, None}
use mathlib.Core.Path.{◌≡◌, refl, sym, ap, ◌∙◌, subst}
use mathlib.Core.List.{List, [], ◌∷◌}
use Prim.Native.Nat.{ℕ, suc, ◌+◌, ◌-◌, ◌*◌, ◌≤◌, ◌<◌, min}
use native.Mathlib.Nat.{mul-le-mul_right}
use native.Mathlib.Numerals.{add-one}
use native.Mathlib.Omega.{arith}
use lib.ListN.{length, set, length-set}
use lib.Seq.{sets}
use Rattle.format.specs.declared.Block.{Block}
use Rattle.format.specs.declared.Fields.{Fields}
use Rattle.format.specs.Outcome.{Outcome, Outcome.value, Outcome.refusal, ◌>>=◌, stored}
use Rattle.format.specs.Word.{bytes_for}
use Rattle.format.specs.Bodies.{block_count}
use Rattle.format.specs.Opening.{Table, block_before, read_fields, read_blocks}
use Rattle.format.proofs.Outcomes.{value_same, by_step}
use Rattle.format.proofs.Widths.{legal_most}
use Rattle.format.proofs.LineFields.{fields_read}
use Rattle.blockwise_linear.specs.declared.reader.Cursor.{Cursor}
use Rattle.blockwise_linear.specs.declared.reader.Step.{Step}
use Rattle.blockwise_linear.specs.Reader.{up_to_length, first_cursor, step_of, step_in, blocks_from, area_in, listed, Small, Good}

-- nothing longer follows
first_alone : (p : Option ℕ) → option_or p None ≡ p
first_alone None = refl
first_alone (Some offset) = refl

-- ---- a block and those behind it

-- a table behind a block
abbrev pub before : Step → Table → Table
before t later =
    record {
      blocks = t.block ∷ later.blocks;
      area = later.area;
      longer = option_or t.longer later.longer;
    }

abbrev pub behind : Step → Outcome Table → Outcome Table
behind t o = o >>= (λ (later : Table). value (before t later))

-- no rows are left: no blocks
none_left : (s : List ℕ) (c : Cursor) → c.left ≤ 0 → blocks_from s c ≡ value (record { blocks = []; area = c.start; longer = None })
unfolding read_blocks
none_left s c h =
    let none : block_count c.left ≡ 0 = omega arith in
    rw none

pub by_block : (s : List ℕ) (c : Cursor) → 0 < c.left → blocks_from s c ≡ (step_in s c >>= (λ (t : Step). behind t (blocks_from s t.next)))
unfolding read_blocks step_in
by_block s c h =
    let more : block_count c.left ≡ suc (block_count (c.left - 512)) = omega arith in
    rw more (go (read_fields (up_to_length s) c.at))
  where
    go : (o : Outcome Fields)
        → (o >>= (λ (f : Fields). read_blocks (block_count (c.left - 512)) (up_to_length s) f.next (c.start + bytes_for (f.bits * min c.left 512)) (c.left - 512) >>= (λ (t : Table). value (block_before f c.start t))))
        ≡ ((o >>= (λ (f : Fields). value (step_of c f))) >>= (λ (t : Step). behind t (blocks_from s t.next)))
    go (value f) = refl
    go (refusal n also) = refl

-- the bytes of a block's rows
pub block_small : (w m : ℕ) → w ≤ 64 → bytes_for (w * m) ≤ 8 * m
block_small w m h = omega (arith, mul-le-mul_right m h)

pub step_small : (s : List ℕ) (c : Cursor) (t : Step) → Small c → step_in s c ≡ value t → Small t.next
unfolding step_in
step_small s c t small e =
    by_step (read_fields (up_to_length s) c.at) _ e λ f at_f e.
    let narrow : f.bits ≤ 64 = legal_most f.bits (fields_read (up_to_length s) c.at f at_f).lawful in
    subst (λ (u : Step). Small u.next) (value_same e) (record { bytes = omega (arith, small.bytes, block_small f.bits (min c.left 512) narrow) })

pub step_less : (s : List ℕ) (c : Cursor) (t : Step) → step_in s c ≡ value t → t.next.left ≡ c.left - 512
unfolding step_in
step_less s c t e = by_step (read_fields (up_to_length s) c.at) _ e λ f at_f e. ap (λ (u : Step). u.next.left) (sym (value_same e))

-- ---- the first pass

-- the area and the spelling of some blocks, behind others that were spelled so
abbrev area_behind : Option ℕ → Outcome Table → Outcome (ℕ × (Option ℕ))
area_behind p o = o >>= (λ (t : Table). value (t.area, option_or p t.longer))

-- the blocks from c on give the area that those from the first place on give, and behind those before c their spelling
pub record Checking (s : List ℕ) (first c : Cursor) (longer : Option ℕ) : Type 0 where
  pub small : Small c
  pub rest : area_in (blocks_from s first) ≡ area_behind longer (blocks_from s c)

-- a block does not change the area, and its spelling joins those before it
area_behind_lem : (p : Option ℕ) (t : Step) (o : Outcome Table) → area_behind p (behind t o) ≡ area_behind (option_or p t.longer) o
area_behind_lem None t (value later) = refl
area_behind_lem (Some offset) t (value later) = refl
area_behind_lem p t (refusal n also) = refl

module _ {s : List ℕ} {first c : Cursor} {p : Option ℕ} (k : Checking s first c p) where
  pub checking_more : (t : Step) → step_in s c ≡ value t → 0 < c.left → Checking s first t.next (option_or p t.longer)
  checking_more t e h =
      record {
        small = step_small s c t k.small e;
        rest = k.rest ∙ rw (by_block s c h, e) (area_behind_lem p t (blocks_from s t.next));
      }

  pub checking_refused : (n : ℕ) (also : List ℕ) → step_in s c ≡ refusal n also → 0 < c.left → area_in (blocks_from s first) ≡ refusal n also
  checking_refused n also e h = k.rest ∙ rw (by_block s c h, e)

  pub checking_ends : c.left ≤ 0 → area_in (blocks_from s first) ≡ value (c.start, p)
  checking_ends h = k.rest ∙ rw (none_left s c h) (ap (λ (q : Option ℕ). value (c.start, q)) (first_alone p))

-- ---- the second pass

-- l holds the i blocks before c; those from c on are still to come
pub record BlocksPut (s : List ℕ) (rows : ℕ) (l₀ : List Block) (c : Cursor) (i : ℕ) (l : List Block) : Type 0 where
  pub small : Small c
  pub kept : length l ≡ length l₀
  pub enough : i + block_count c.left ≤ length l
  pub later : Table
  pub good : blocks_from s c ≡ value later
  pub rest : stored (listed (blocks_from s (first_cursor s rows))) l₀ ≡ sets l i later.blocks

module _ {s : List ℕ} {rows : ℕ} {l₀ : List Block} {c : Cursor} {i : ℕ} {l : List Block} (k : BlocksPut s rows l₀ c i l) where
  -- a block that was checked is there
  pub filling_good : 0 < c.left → Good (step_in s c)
  filling_good h =
      by_step (step_in s c) (λ (t : Step). behind t (blocks_from s t.next)) (sym (by_block s c h) ∙ k.good) λ t e more.
      record { found = t; is = e }

  pub filling_more : (t : Step) → step_in s c ≡ value t → 0 < c.left → BlocksPut s rows l₀ t.next (i + 1) (set l i t.block)
  filling_more t e h =
      let here : behind t (blocks_from s t.next) ≡ value k.later = sym (rw e at (by_block s c h)) ∙ k.good in
      by_step (blocks_from s t.next) (λ (later : Table). value (before t later)) here λ later good same.
      record {
        small = step_small s c t k.small e;
        kept = simp length-set k.kept;
        enough = simp length-set (omega (arith, k.enough, step_less s c t e));
        later = later;
        good = good;
        rest = k.rest ∙ ap (λ (u : Table). sets l i u.blocks) (sym (value_same same)) ∙ simp add-one;
      }

  pub filling_ends : c.left ≤ 0 → l ≡ stored (listed (blocks_from s (first_cursor s rows))) l₀
  filling_ends h =
      let done : record { blocks = []; area = c.start; longer = None } ≡ k.later = value_same (sym (none_left s c h) ∙ k.good) in
      sym (k.rest ∙ ap (λ (u : Table). sets l i u.blocks) (sym done))
