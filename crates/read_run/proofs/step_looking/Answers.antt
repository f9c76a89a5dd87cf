-- `read_run::step_looking` meets its contract: what looking at the chunk found is what reading by the table finds.
-- Assumes nothing.
use Prim.Native.Nat.{◌-◌}
use mathlib.Core.Path.{sym, ◌∙◌}
use Rattle.format.specs.Reading.{row_at}
use Rattle.read_chunk.proofs.Chunks.{decoded_at}
use Rattle.read_walk.specs.Walks.{Kept.all_values}
use Rattle.read_walk.proofs.Walking.{chunk_based, block_based, is_passing, passing_long}
use Rattle.read_run.proofs.Straight.{looks}
use borrow.Author.Rules.{rules}
use Rattle.read_run.proofs.step_looking.Goals as goal

pub returns : goal.returns
returns c =
    let w = c.args.w in
    let col = c.args.column in
    let bytes = c.args.bytes.now in
    record {
      walking = (λ table before list o number block room f.
          let g = is_passing f c.requires.0.on in
          let found =
          decoded_at col (search rules) bytes w.at (w.end - w.at) c.args.size c.args.blocks c.args.block (chunk_based w c.requires.1 c.requires.3) c.look-decoded.ensures.found table number (block_based w table c.requires.1 block) in
          let all = c.behind.ensures.walking all_values (row_at col table bytes) col.window o before list c.look-decoded.ensures.values g found (sym c.look-decoded.ensures.long) (room ∙ passing_long g) in
          rw (looks w c.look-decoded.result c.requires.4) at all);
      result_bound = c.behind.ensures.result_bound;
    }
