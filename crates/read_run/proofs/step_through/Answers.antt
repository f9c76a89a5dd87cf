-- `read_run::step_through` meets its contract: what decoding the chunk found is what reading by the table finds.
-- Assumes nothing.
use Prim.Native.Nat.{◌-◌}
use native.Mathlib.Omega.{arith}
use Rattle.format.specs.Reading.{row_at}
use Rattle.read_chunk.proofs.Chunks.{decoded_at}
use Rattle.read_walk.specs.Walks.{Kept.all_values}
use Rattle.read_walk.proofs.Walking.{chunk_based, block_based, is_passing, left_as, passing_long}
use borrow.Author.Rules.{rules}
use Rattle.read_run.proofs.step_through.Goals as goal

pub returns : goal.returns
returns c =
    let w = c.args.w in
    let col = c.args.column in
    let bytes = c.args.bytes.now in
    record {
      keeps = (λ table before o number block f.
          let g = is_passing f c.requires.0.on in
          left_as _ _ c.keep.ensures c.stores-storing.ensures
          (c.behind.ensures.walking all_values (row_at col table bytes) col.window o before _ _ g
          (decoded_at col (search rules) bytes w.at (w.end - w.at) _ c.args.blocks c.args.block (chunk_based w c.requires.1 c.requires.3) c.decode-decoded.ensures table number (block_based w table c.requires.1 block))
          (omega arith) (passing_long g)));
      result_bound = c.behind.ensures.result_bound;
    }
