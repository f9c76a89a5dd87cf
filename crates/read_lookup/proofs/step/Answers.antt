-- `read_lookup::step` meets its contract: the rest is told, or the chunk at hand is read.
-- Assumes nothing.
use Prim.Native.Nat.{ℕ}
use mathlib.Core.Path.{sym, subst, ap}
use mathlib.Core.List.{List}
use native.Mathlib.Omega.{arith}
use lib.ListN.{length}
use Rattle.format.specs.Lookup.{within}
use Rattle.format.specs.Reading.{row_at}
use Rattle.read_walk.specs.Walks.{Kept.rows_of, Walking}
use Rattle.read_walk.proofs.Walking.{is_passing, passing_long}
use Rattle.read_lookup.proofs.Rests.{not_done}
use Rattle.read_lookup.proofs.step.Goals as goal

pub returns-clause-keeps : goal.returns-clause-keeps
returns-clause-keeps c = λ table before o number block f.
    let test = within c.args.low c.args.high in
    let read = row_at c.args.column table c.args.bytes.now in
    let g = is_passing f c.requires.0.on in
    let same = not_done (c.is_told.ensures test read c.args.column.window o before g) c.if-is_told.false in
    c.step_on.ensures.keeps table before o number (rw (c.trimmed.ensures.going.1, c.trimmed.ensures.going.3) block)
    (c.trimmed.ensures.by_index test read c.args.column.window o before _ (omega (arith, passing_long g, ap length same)) (subst (λ (l : List ℕ). Walking (rows_of test) read c.args.column.window o before c.args.w l) (sym same) f))
