-- `read_lookup::put_all` meets its contract: each entry of the part that is written is its row.
-- Assumes nothing.
use native.Mathlib.Omega.{arith}
use Rattle.std.proofs.lemmas.List.{length-take, length-drop}
use Rattle.read_lookup.proofs.Rests.{rows_put}
use Rattle.read_lookup.proofs.put_all.Goals as goal
use Prim.Native.Nat.{◌+◌, ◌-◌}
use mathlib.Core.Path.{◌≡◌, ◌∙◌}
use lib.ListN.{length, take, drop}

pub returns : goal.returns
returns c =
    let size : c.args.at + c.args.n - c.args.at ≡ c.args.n = omega arith in
    let long : length (take (c.args.at + c.args.n - c.args.at) (drop c.args.at c.args.found.now)) ≡ c.args.n = simp (length-take, length-drop) (omega arith) in
    rows_put c.args.row c.args.n _ _ _ _ size (c.loop-i.auto.entry-items ∙ long) (omega arith) (λ i h. c.loop-i.invariant i (omega arith))
