-- `replay_walk::walking::step_through` meets its contract: what decoding the chunk found is what reading by the table finds.
-- Assumes nothing.
use Prim.Native.Nat.{◌-◌, ◌^◌, ◌<◌}
use native.Mathlib.Omega.{arith}
use Rattle.read_chunk.proofs.Chunks.{decoded_at}
use Rattle.replay_walk.proofs.Walks.{is_on_hand}
use borrow.Author.Rules.{rules}
use Rattle.replay_walk.proofs.walking.step_through.Goals as goal

pub met_all-met-requires : goal.met_all-met-requires
met_all-met-requires c = (omega (arith, c.values-1.given, c.requires.1, c.requires.0.to, c.requires.0.inside, (let seen-here : c.args.column.window.rows < 2 ^ 32 = search rules in seen-here)), c.requires.0.few)

pub returns : goal.returns
returns c =
    let w = c.args.w in
    record {
      keeps = (λ table number block f.
          c.turned.ensures.by_index _ _ (is_on_hand _ _ _ _ f c.requires.0.on)
          (decoded_at c.args.column ((let few-here : c.args.column.rows < 2 ^ 32 = search rules in few-here)) c.args.bytes.now w.at (w.end - w.at) _ c.args.blocks c.args.block c.requires.1 c.decode-decoded.ensures table number block)
          c.met_all-met.ensures.meets);
      result_bound = c.turned.ensures.result_bound;
    }
