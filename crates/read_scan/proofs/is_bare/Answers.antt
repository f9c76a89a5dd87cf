-- `read_scan::is_bare` meets its contract, by the invariant `Baring` over the list that the group lies in.
-- Assumes nothing.
use Prim.Native.Nat.{ℕ, ◌+◌, ◌-◌, ◌≤◌, ◌<◌}
use mathlib.Core.Path.{◌≡◌, ◌∙◌}
use mathlib.Core.List.{List}
use native.Mathlib.Nat.{add_assoc}
use native.Mathlib.Omega.{arith}
use lib.ListN.{length, take, drop, get_or}
use borrow.Author.Tests.{leb-true}
use Rattle.std.proofs.lemmas.List.{get_or-take, get_or-drop, length-take-le, length-drop}
use Rattle.read_scan.proofs.Scans.{bare_more, bare_ends}
use Rattle.read_scan.proofs.is_bare.Goals as goal

-- a group has 16 values
group_long : (values : List ℕ) (from : ℕ) → from + 16 ≤ length values → length (take (from + 16 - from) (drop from values)) ≡ 16
group_long values from h = omega (arith, length-take-le (from + 16 - from) (drop from values) (omega (arith, length-drop from values)))

-- each of which is the list's
group_value : (values : List ℕ) (from i : ℕ) → i < 16 → get_or (take (from + 16 - from) (drop from values)) i 0 ≡ get_or values (from + i) 0
group_value values from i h = get_or-take (from + 16 - from) (drop from values) i 0 (omega arith) ∙ get_or-drop from values i 0

pub loop-value-preserved : goal.loop-value-preserved
loop-value-preserved c =
    let long = group_long c.args.values.now c.args.from c.requires.2 in
    let outside = rw (group_value c.args.values.now c.args.from c.loop-value.value-index (omega arith)) at c.beyond-seen.ensures in
    rw (← (add_assoc c.args.from c.loop-value.value-index 1)) (bare_more _ _ c.loop-value.invariant outside)

pub returns : goal.returns
returns c =
    let long = group_long c.args.values.now c.args.from c.requires.2 in
    λ e. bare_ends _ c.loop-value.invariant (leb-true _ _ e) (omega arith)
