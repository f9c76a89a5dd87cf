use Prim.Native.Nat.{◌-◌, ◌^◌, ◌≤◌}
use mathlib.Core.Path.{◌≡◌}
use lib.ListN.{length}
use Rattle.text_blame_bytes.specs.Owners.{owners_found, Stays}
use Rattle.text_blame_bytes.specs.Tallies.{tally_from, tallied}
use Rattle.text_blame_bytes.proofs.counting.count.Given as goal

abbrev pub invariant-loop-i : goal.invariant-loop-i
invariant-loop-i l =
    let owners = owners_found l.initial.counting.own.column l.left in
    let tally = l.counting.tally in
    Stays l.left l.initial.counting.own l.counting.own × (tallied owners l.left l.right ≡ tally_from owners l.left l.right l.i (length l.left - l.i) tally)
    × (tally.bytes ≤ l.i) × (tally.rows ≤ tally.next) × (tally.next ≤ 2 ^ 32)
