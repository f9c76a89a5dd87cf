-- `with_byte` meets its contract, by the rows that the byte names.
-- Assumes nothing.
use Rattle.std.specs.Prelude.{Some}
use Prim.Native.Nat.{ℕ, ◌+◌, ◌-◌, ◌^◌, ◌<◌, max}
use mathlib.Core.Path.{◌≡◌, refl, sym, ap, ◌∙◌, subst}
use Rattle.text_blame_bytes.specs.Tallies.{with_byte, Counted}
use native.Mathlib.Omega.{arith}
use Rattle.text_blame_bytes.specs.declared.counting.Tally.{Tally}
use Rattle.text_blame_bytes.proofs.Tallies.{counted_none, counted_rows}
use Rattle.text_blame_bytes.proofs.counting.with_byte.Goals as goal

pub overflow_add-result-in-Some-2 : goal.overflow_add-result-in-Some-2
overflow_add-result-in-Some-2 c = omega (arith, c.requires.rows, c.requires.next, c.less-more.ensures)

pub returns-in-None : goal.returns-in-None
returns-in-None c = record { value = rw c.in-None.is refl; counted = counted_none _ c.requires }

pub returns-in-Some : goal.returns-in-Some
returns-in-Some c =
    let k = c.args.tally in
    let first = c.in-Some.first in
    let last = c.in-Some.last in
    let small : last < 2 ^ 32 = omega arith in
    let rows : k.rows + c.less-more.result ≡ k.rows + (last + 1 - max first k.next) =
    ap (λ (n : ℕ). k.rows + n) (c.less-more.ensures ∙ ap (λ (n : ℕ). last + 1 - n) c.larger-fresh.ensures) in
    let same : ◌≡◌ {A = Tally} (record { bytes = k.bytes + 1; rows = k.rows + c.less-more.result; next = c.larger.result }) (with_byte k (Some (first, last))) =
    (λ i. record { bytes = k.bytes + 1; rows = rows i; next = c.larger.ensures i }) in
    record { value = rw c.in-Some.is same; counted = subst (λ (m : Tally). Counted k m) (sym same) (counted_rows k first last c.requires small) }
