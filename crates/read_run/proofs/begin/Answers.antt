-- `read_run::begin` meets its contract: the run leaves the rows, is empty, or begins.
-- Assumes nothing.
use Prim.Native.Nat.{ℕ, ◌+◌, ◌-◌, ◌%◌}
use mathlib.Core.Path.{◌≡◌, ap}
use native.Mathlib.Omega.{arith}
use lib.Dec.{leb}
use Rattle.read_walk.proofs.Walking.{ended}
use Rattle.read_run.proofs.Beginnings.{leaves, none, begins_run}
use Rattle.read_run.proofs.begin.Goals as goal

pub returns-then-window-first : goal.returns-then-window-first
returns-then-window-first c = λ read list long. ended c.settled.ensures.0 c.settled.ensures.1 (leaves read c.args.window _ _ list long (omega (arith, c.if-window-first.true)))

pub returns-then-window-first-2 : goal.returns-then-window-first-2
returns-then-window-first-2 c = λ read list long. ended c.settled-then-window-first-2.ensures.0 c.settled-then-window-first-2.ensures.1 (leaves read c.args.window _ _ list long (omega (arith, c.if-window-first-2.true, c.if-window-first.false)))

pub returns-then-n-eq0 : goal.returns-then-n-eq0
returns-then-n-eq0 c = λ read list long. ended c.settled-then-n-eq0.ensures.0 c.settled-then-n-eq0.ensures.1 (none read c.args.window _ _ list long (omega (arith, c.if-window-first-2.false, c.if-window-first.false)) c.if-n-eq0.true)

pub returns : goal.returns
returns c =
    let same : c.column_row-at.result.0 % 512 ≡ (c.args.window.first + c.args.first) % 512 = omega (arith, c.column_row-at.ensures) in
    λ read list long. record {
      phase = begins_run read c.args.window c.args.first c.args.n list long (omega (arith, c.if-window-first-2.false, c.if-window-first.false)) (omega (arith, c.if-n-eq0.false)) _
          (ap (λ (q : ℕ). leb (c.args.first + c.args.n - c.args.first) (512 - q)) same) _;
    }
