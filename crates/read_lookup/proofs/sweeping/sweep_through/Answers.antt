-- `read_lookup::sweeping::sweep_through` meets its contract: what was gathered is settled.
-- Assumes nothing.
use Prim.Native.Nat.{◌^◌, ◌<◌}
use mathlib.Core.Path.{sym, ◌∙◌}
use native.Mathlib.Omega.{arith}
use Rattle.format.specs.Lookup.{within}
use Rattle.format.specs.Reading.{row_at}
use Rattle.read_walk.proofs.Walking.{ended, is_passing}
use Rattle.read_lookup.proofs.Sweeps.{front_rows, front_few, front_below, swept_to, swept_refused, is_refused, same_run}
use borrow.Author.Rules.{rules}
use Rattle.read_lookup.proofs.sweeping.sweep_through.Goals as goal

pub settle-requires : goal.settle-requires
settle-requires c =
    let g = swept_to _ _ c.sweep_rows.ensures c.in-Ok.is in
    let seen : c.args.column.window.rows < 2 ^ 32 = search rules in
    (c.requires.0, c.requires.2, c.requires.3, front_below _ _ g.2 (2 ^ 32) (omega (arith, g.0)) (omega (arith, g.1, c.requires.1, seen)), g.0, front_few _ _ g.2)

pub returns-in-Ok-clause-walking : goal.returns-in-Ok-clause-walking
returns-in-Ok-clause-walking c = λ table before o number f.
    let g = swept_to _ _ c.sweep_rows.ensures c.in-Ok.is in
    c.settle.ensures.by_index (within c.args.low c.args.high) (row_at c.args.column table c.args.bytes.now) c.args.column.window o before _ g.1 (is_passing f c.requires.0.on)
    (sym (same_run c.args.column table c.args.bytes.now c.args.blocks c.args.block _ _ c.requires.4 number) ∙ g.2.run) (front_rows _ _ g.2)

pub returns-in-Err-clause-walking : goal.returns-in-Err-clause-walking
returns-in-Err-clause-walking c = λ table before o number f.
    ended c.over.ensures.0 c.over.ensures.1
    (is_refused (within c.args.low c.args.high) (row_at c.args.column table c.args.bytes.now) (is_passing f c.requires.0.on) c.requires.3 c.in-Err.why
    (sym (same_run c.args.column table c.args.bytes.now c.args.blocks c.args.block _ _ c.requires.4 number) ∙ swept_refused _ _ c.sweep_rows.ensures c.in-Err.is))
