-- `read_row::reader::ends_inside` meets its contract: the area's bytes behind the run's start hold the row's bits just where these end inside.
-- Assumes nothing.
use Prim.Native.Nat.{ℕ, ◌+◌, ◌-◌, ◌*◌, ◌/◌, ◌≤◌, ◌<◌}
use mathlib.Core.Path.{◌≡◌, sym, ◌∙◌}
use mathlib.Core.Bool.{false, ◌||◌}
use mathlib.Core.Logic.{⊎_elim}
use native.Mathlib.Nat.{mul-le-mul_left}
use native.Mathlib.Omega.{arith}
use lib.Dec.{leb, eqb}
use borrow.Author.Tests.{le-leb, lt-leb, eq-eqb, ne_eqb}
use Rattle.format.proofs.Lists.{below_or}
use Rattle.format.proofs.Widths.{legal_most}
use Rattle.read_row.proofs.reader.ends_inside.Goals as goal

module _ (start row bits size : ℕ) (some : bits ≡ 0 → ⊥) where
  -- a run behind the area's end is not inside
  before_start : size < start → false ≡ (eqb bits 0 || leb (8 * start + (row + 1) * bits) (8 * size))
  before_start h = rw (ne_eqb bits 0 some, lt-leb (8 * start + (row + 1) * bits) (8 * size) (omega arith))

  -- whole bytes hold the row's bits just where the bits end inside
  by_bytes : start ≤ size → leb (((row + 1) * bits + 7) / 8) (size - start) ≡ (eqb bits 0 || leb (8 * start + (row + 1) * bits) (8 * size))
  by_bytes h =
      let end = (row + 1) * bits in
      rw (ne_eqb bits 0 some)
      (⊎_elim
      (λ (over : size - start < (end + 7) / 8).
      lt-leb ((end + 7) / 8) (size - start) over ∙ sym (lt-leb (8 * start + end) (8 * size) (omega arith)))
      (λ (fits : (end + 7) / 8 ≤ size - start).
      le-leb ((end + 7) / 8) (size - start) fits ∙ sym (le-leb (8 * start + end) (8 * size) (omega arith)))
      (below_or (size - start) ((end + 7) / 8)))

pub returns-then-place-eq0 : goal.returns-then-place-eq0
returns-then-place-eq0 c = rw (eq-eqb _ _ c.if-place-eq0.true)

pub returns-then-area-place : goal.returns-then-area-place
returns-then-area-place c = before_start _ _ _ _ c.if-place-eq0.false c.if-area-place.true

-- a row of a legal width ends before bit 2^38 of its run
pub overflow_mul-end : goal.overflow_mul-end
overflow_mul-end c = record { fits = omega (arith, mul-le-mul_left (c.args.place.row + 1) (legal_most c.args.place.bits c.requires)) }

pub overflow_add-result : goal.overflow_add-result
overflow_add-result c = record { fits = omega (arith, mul-le-mul_left (c.args.place.row + 1) (legal_most c.args.place.bits c.requires)) }

pub returns : goal.returns
returns c = by_bytes _ _ _ _ c.if-place-eq0.false c.if-area-place.false
