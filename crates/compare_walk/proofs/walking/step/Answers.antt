-- `compare_walk::walking::step` meets its contract: reading by the tables is reading with the blocks at hand.
-- Assumes nothing.
use Prim.Native.Nat.{◌^◌, ◌<◌}
use Rattle.format.specs.Reading.{row_at}
use Rattle.read_chunk.proofs.Chunks.{in_block}
use Rattle.compare_walk.proofs.Equals.{equal_by}
use Rattle.compare_walk.proofs.Seeks.{is_on_hand, less_to_go, up_to_end}
use borrow.Author.Rules.{rules}
use Rattle.compare_walk.proofs.walking.step.Goals as goal

pub turned-requires : goal.turned-requires
turned-requires c = (c.look-looked.ensures.some, up_to_end _ c.requires c.look-looked.ensures.inside, c.look-looked.ensures.equal.most)

pub returns : goal.returns
returns c =
    record {
      keeps = (λ ltable rtable from ln lb rn rb f.
          let same_left = in_block c.args.left ((let few-left-here : c.args.left.rows < 2 ^ 32 = search rules in few-left-here)) ltable c.args.lbytes.now c.args.w.at _ ln lb c.look-looked.ensures.lone in
          let same_right = in_block c.args.right ((let few-right-here : c.args.right.rows < 2 ^ 32 = search rules in few-right-here)) rtable c.args.rbytes.now c.args.w.at _ rn rb c.look-looked.ensures.rone in
          c.turned.ensures.by_index (row_at c.args.left ltable c.args.lbytes.now) (row_at c.args.right rtable c.args.rbytes.now) _ from same_left same_right
          (equal_by _ _ c.args.w.at _ _ _ same_left same_right c.look-looked.ensures.equal) (is_on_hand _ _ _ _ c.args.w f c.requires.on));
      result_bound = less_to_go c.args.w c.requires.on c.turned.ensures.result_bound;
    }
