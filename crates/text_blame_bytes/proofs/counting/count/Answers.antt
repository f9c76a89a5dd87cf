-- `count` meets its contract: what is left is counted on top of what was.
-- Assumes nothing.
use Prim.Native.Nat.{ℕ, ◌-◌, ◌+◌}
use mathlib.Core.Path.{◌≡◌, sym, ap, ◌∙◌, subst}
use native.Mathlib.Omega.{arith}
use lib.ListN.{length}
use Rattle.format.specs.declared.Column.{Column}
use Rattle.text_column.specs.declared.own.Own.{Own}
use Rattle.text_column.specs.Own.{Owned}
use Rattle.text_column.proofs.Owns.{owned_first}
use Rattle.text_column.proofs.Rows.{opens_shows}
use Rattle.text_blame_bytes.specs.Owners.{owners_found}
use Rattle.text_blame_bytes.specs.Tallies.{tally_from, tallied}
use Rattle.text_blame_bytes.proofs.Passed.{stays_here, stays_owned, stays_then}
use Rattle.text_blame_bytes.proofs.Tallies.{tally_more, tally_ends}
use Rattle.text_blame_bytes.proofs.counting.count.Goals as goal

pub loop-i-init : goal.loop-i-init
loop-i-init c =
    let left = c.args.left.now in
    let all : length left ≡ length left - 0 = omega arith in (
      stays_here (subst (λ (x : Own). Owned left x.column x.pass) (sym c.begin.ensures) (owned_first (opens_shows c.requires))),
      ap (λ (n : ℕ). tally_from (owners_found c.begin.result.column left) left c.args.right.now 0 n (record { bytes = 0; rows = 0; next = 0 })) all,
      omega arith,
      omega arith,
      omega arith,
    )

pub count_at-counting-requires : goal.count_at-counting-requires
count_at-counting-requires c =
    let inv = c.loop-i.invariant in
    (record { more = omega (arith, inv.2); rows = inv.3; next = inv.4 }, stays_owned inv.0)

pub loop-i-preserved : goal.loop-i-preserved
loop-i-preserved c =
    let left = c.args.left.now in
    let right = c.args.right.now in
    let inv = c.loop-i.invariant in
    let owners = owners_found c.begin.result.column left in
    let here : c.count_at-counting.result.tally ≡ tally_from owners left right c.loop-i.i 1 c.loop-i.counting.tally =
    c.count_at-counting.ensures.tally_value ∙ ap (λ (k : Column). tally_from (owners_found k left) left right c.loop-i.i 1 c.loop-i.counting.tally) inv.0.column in (
      stays_then inv.0 c.count_at-counting.ensures.stays,
      inv.1 ∙ tally_more owners left right c.loop-i.i (length left) c.loop-i.counting.tally (omega arith)
          ∙ ap (tally_from owners left right (c.loop-i.i + 1) (length left - (c.loop-i.i + 1))) (sym here),
      omega (arith, inv.2, c.count_at-counting.ensures.counted.bytes),
      c.count_at-counting.ensures.counted.rows,
      c.count_at-counting.ensures.counted.next,
    )

pub returns : goal.returns
returns c =
    let left = c.args.left.now in
    let right = c.args.right.now in
    let owners = owners_found c.begin.result.column left in
    sym (ap (λ (x : Own). tallied (owners_found x.column left) left right) (sym c.begin.ensures) ∙ c.loop-i.invariant.1
    ∙ tally_ends owners left right c.loop-i.i (length left) c.loop-i.counting.tally (omega (arith, c.loop-i-test.false)))
