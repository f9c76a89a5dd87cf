-- `read_lookup::store_within` meets its contract: what was gathered is what is stored.
-- Assumes nothing.
use Prim.Native.Nat.{ℕ, ◌+◌, ◌^◌, ◌≤◌}
use mathlib.Core.Path.{sym, subst}
use mathlib.Core.List.{List}
use native.Mathlib.Omega.{arith}
use lib.ListN.{length, take}
use lib.Seq.{length-take-le}
use Rattle.format.specs.Word.{AllBelow}
use Rattle.read_scan.proofs.Scans.{rows_below}
use Rattle.read_lookup.proofs.store_within.Goals as goal

-- a list has room for the front of another
has_front : (at n room : ℕ) (list : List ℕ) → n ≤ length list → at + n ≤ room → at + length (take n list) ≤ room
has_front at n room list h fits = omega (arith, length-take-le n list h)

pub copy_rows-requires : goal.copy_rows-requires
copy_rows-requires c = (
  has_front _ _ _ _ (omega (arith, c.gather_rows-n.ensures.0, c.gather_rows-n.auto.values)) c.if-end-found.true,
  subst (AllBelow (2 ^ 32)) (sym c.gather_rows-n.ensures.1) (rows_below _ _ _ _ c.requires.0),
)
