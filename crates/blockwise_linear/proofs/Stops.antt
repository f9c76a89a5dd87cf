-- A pass over blocks that were checked, wherever it stops.
--     Stop, stop                 what is known of a pass k blocks on; it is known of every k
--     stop_good, stop_further    a block behind is there; a block further
--     stop_block                 the block at hand is the table's
--     passing_starts, -good, -further     a pass, wherever it stands: it starts; the block behind it is there; a block further
-- Assumes nothing.
use Prim.Native.Nat.{ℕ, zero, suc, ◌+◌, ◌-◌, ◌*◌, ◌^◌, ◌≤◌, ◌<◌}
use mathlib.Core.Path.{◌≡◌, refl, sym, ap, ◌∙◌, subst}
use mathlib.Core.List.{List}
use native.Mathlib.Omega.{arith}
use lib.ListN.{drop, get_or}
use lib.Seq.{get_or-drop, drop-drop}
use Rattle.format.specs.declared.Block.{Block}
use Rattle.format.specs.Outcome.{Outcome.value}
use Rattle.format.specs.Bodies.{block_count}
use Rattle.format.specs.Opening.{Table}
use Rattle.format.specs.Reading.{no_block, block_at}
use Rattle.format.proofs.Outcomes.{value_same, by_step}
use Rattle.blockwise_linear.specs.declared.passing.Pass.{Pass}
use Rattle.blockwise_linear.specs.declared.reader.Step.{Step}
use Rattle.blockwise_linear.specs.Reader.{first_cursor, step_in, blocks_from, Small, Good}
use Rattle.blockwise_linear.specs.Passing.{onward, passed, Passing}
use Rattle.blockwise_linear.proofs.Passes.{before, behind, by_block, step_small, step_less}

-- a pass k blocks on: its place can be counted, so many rows are left, and the blocks from there on are the rest of the table
pub record Stop (s : List ℕ) (rows : ℕ) (table : List Block) (k : ℕ) : Type 0 where
  pub count : (passed s rows k).count ≡ k
  pub small : Small (passed s rows k).next
  pub left : (passed s rows k).next.left ≡ rows - 512 * k
  pub later : Table
  pub good : blocks_from s (passed s rows k).next ≡ value later
  pub rest : drop k table ≡ later.blocks

-- the block behind it, and the blocks behind that
record Next (s : List ℕ) (rows : ℕ) (table : List Block) (k : ℕ) : Type 0 where
  pub step : Step
  pub is : step_in s (passed s rows k).next ≡ value step
  pub later : Table
  pub good : blocks_from s step.next ≡ value later
  pub rest : drop k table ≡ (before step later).blocks

module _ {s : List ℕ} {rows : ℕ} {table : List Block} {k : ℕ} (a : Stop s rows table k) (more : k < block_count rows) where
  next : Next s rows table k
  next =
      let c = (passed s rows k).next in
      by_step (step_in s c) (λ (t : Step). behind t (blocks_from s t.next)) (sym (by_block s c (omega (arith, a.left))) ∙ a.good) λ t e found.
      by_step (blocks_from s t.next) (λ (later : Table). value (before t later)) found λ later good same.
      record { step = t; is = e; later = later; good = good; rest = a.rest ∙ ap (λ (u : Table). u.blocks) (sym (value_same same)) }

  pub stop_good : Good (step_in s (passed s rows k).next)
  stop_good = record { found = next.step; is = next.is }

  -- the pass a block further
  one_on : passed s rows (suc k) ≡ onward (passed s rows k) (value next.step)
  unfolding passed
  one_on = ap (onward (passed s rows k)) next.is

  pub stop_further : Stop s rows table (suc k)
  stop_further =
      let n = next in
      let c = (passed s rows k).next in
      let one_more : suc k ≡ k + 1 = omega arith in
      record {
        count = rw one_on (omega (arith, a.count));
        small = rw one_on (step_small s c n.step a.small n.is);
        left = rw one_on (omega (arith, a.left, step_less s c n.step n.is));
        later = n.later;
        good = rw one_on n.good;
        rest = ap (λ (i : ℕ). drop i table) one_more ∙ sym (drop-drop 1 k table) ∙ ap (drop 1) n.rest;
      }

  pub stop_block : (passed s rows (suc k)).block ≡ block_at table k
  stop_block =
      let here : k ≡ k + 0 = omega arith in
      rw one_on (sym (ap (block_at table) here ∙ sym (get_or-drop k table 0 no_block) ∙ ap (λ (l : List Block). get_or l 0 no_block) next.rest))

pub stop : (s : List ℕ) (rows : ℕ) → rows < 2 ^ 32 → (t : Table) → blocks_from s (first_cursor s rows) ≡ value t → (k : ℕ) → k ≤ block_count rows → Stop s rows t.blocks k
unfolding passed
stop s rows few t good zero inside = record { count = refl; small = record { bytes = omega arith }; left = omega arith; later = t; good = good; rest = refl }
stop s rows few t good (suc k) inside = stop_further (stop s rows few t good k (omega arith)) (omega arith)

-- ---- a pass, wherever it stands

-- it stands before the first block
pub passing_starts : {s : List ℕ} {rows : ℕ} {p : Pass} → p ≡ passed s rows 0 → Passing s rows p × (p.count ≡ 0)
unfolding passed
passing_starts {s} {rows} {p} e =
    let none : p.count ≡ 0 = ap (λ (q : Pass). q.count) e in
    (record { stands = e ∙ ap (passed s rows) (sym none); inside = omega arith }, none)

module _ {s : List ℕ} {rows : ℕ} {p : Pass} (few : rows < 2 ^ 32) (checked : Good (blocks_from s (first_cursor s rows))) (a : Passing s rows p) (more : p.count < block_count rows) where
  here : Stop s rows checked.found.blocks p.count
  here = stop s rows few checked.found checked.is p.count a.inside

  -- the block behind it is there
  pub passing_good : Small p.next × Good (step_in s p.next)
  passing_good = subst (λ (q : Pass). Small q.next × Good (step_in s q.next)) (sym a.stands) (here.small, stop_good here more)

  -- a block further
  pub passing_further : {q : Pass} → q ≡ onward p (step_in s p.next) → Passing s rows q × (q.count ≡ p.count + 1)
  unfolding passed
  passing_further {q} e =
      let on : q ≡ passed s rows (suc p.count) = e ∙ ap (λ (x : Pass). onward x (step_in s x.next)) a.stands in
      let one : q.count ≡ suc p.count = ap (λ (x : Pass). x.count) on ∙ (stop_further here more).count in
      (record { stands = on ∙ ap (passed s rows) (sym one); inside = omega arith }, omega arith)
