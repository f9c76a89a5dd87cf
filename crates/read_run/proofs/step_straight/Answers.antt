-- `read_run::step_straight` meets its contract: in a second pass the chunk's values stand in the list.
-- Assumes nothing.
use Prim.Native.Nat.{◌-◌}
use mathlib.Core.Path.{sym}
use Rattle.format.specs.Reading.{row_at}
use Rattle.read_chunk.proofs.Chunks.{decoded_at}
use Rattle.read_walk.specs.Walks.{Kept.all_values}
use Rattle.read_walk.proofs.Walking.{chunk_based, block_based, is_passing, passing_long}
use Rattle.read_run.proofs.Straight.{straight}
use borrow.Author.Rules.{rules}
use Rattle.read_run.proofs.step_straight.Goals as goal

pub returns : goal.returns
returns c =
    let w = c.args.w in
    let col = c.args.column in
    let bytes = c.args.bytes.now in
    record {
      keeps = (λ table before o number block f.
          let g = is_passing f c.requires.0.on in
          let found =
          decoded_at col (search rules) bytes w.at (w.end - w.at) c.args.size c.args.blocks c.args.block (chunk_based w c.requires.1 c.requires.3) c.decode_there-decoded.ensures.found table number (block_based w table c.requires.1 block) in
          straight g c.args.size c.requires.3 c.requires.6 c.requires.7 _ _ c.decode_there-decoded.ensures.values found c.decode_there-decoded.ensures.list
          (c.behind.ensures.walking all_values (row_at col table bytes) col.window o before _ c.decode_there-decoded.ensures.values g found (sym c.decode_there-decoded.ensures.long) (passing_long g)));
      result_bound = c.behind.ensures.result_bound;
    }
