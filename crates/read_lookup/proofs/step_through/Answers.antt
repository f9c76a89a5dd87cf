-- `read_lookup::step_through` meets its contract: what decoding the chunk found is what reading by the table finds.
-- Assumes nothing.
use Prim.Native.Nat.{◌-◌}
use mathlib.Core.Path.{sym, ◌∙◌}
use native.Mathlib.Omega.{arith}
use Rattle.format.specs.Lookup.{within}
use Rattle.format.specs.Reading.{row_at}
use Rattle.read_chunk.proofs.Chunks.{decoded_at, whole_run}
use Rattle.read_chunk.proofs.Rows.{rows_few}
use Rattle.read_walk.specs.Walks.{Kept.rows_of}
use Rattle.read_walk.proofs.Walking.{chunk_based, block_based, is_passing, left_as, stores-whole, has_room, passing_long}
use borrow.Author.Rules.{rules}
use Rattle.read_lookup.proofs.step_through.Goals as goal

pub behind-requires : goal.behind-requires
behind-requires c = (c.requires.0, c.requires.3, omega (arith, c.keep-n.ensures.value, rows_few))

pub returns-clause-keeps : goal.returns-clause-keeps
returns-clause-keeps c = λ table before o number block f.
    let w = c.args.w in
    let col = c.args.column in
    let test = within c.args.low c.args.high in
    let read = row_at col table c.args.bytes.now in
    let g = is_passing f c.requires.0.on in
    let d = decoded_at col (search rules) c.args.bytes.now w.at (w.end - w.at) _ c.args.blocks c.args.block (chunk_based w c.requires.1 c.requires.3) c.decode-decoded.ensures table number (block_based w table c.requires.1 block) in
    left_as _ _
    (c.keep-n.ensures.found_after
    (λ stored.
    let whole = stores-whole w c.decode-decoded.result (sym c.stores-storing.ensures ∙ stored) in
    omega (arith, passing_long g, has_room (rows_of test) read g _ c.requires.3 _ (whole_run d whole.0) c.keep-n.ensures.value whole.1)))
    c.stores-storing.ensures
    (c.behind.ensures.walking (rows_of test) read col.window o before _ _ g d c.keep-n.ensures.value (passing_long g))
