use Prim.Native.Nat.{◌+◌}
use mathlib.Core.Path.{◌≡◌}
use lib.ListN.{length}
use Rattle.text.proofs.Filling.{Filling}
use Rattle.text_blame_bytes.specs.Owners.{Stays}
use Rattle.text_blame_lines.specs.Bytes.{blame_max, text_at}
use Rattle.text_blame.proofs.fill_lines.Given as goal

abbrev pub invariant-loop-i : goal.invariant-loop-i
invariant-loop-i l =
    Stays l.lbytes l.initial.l l.l × Stays l.rbytes l.initial.r l.r
    × Filling (text_at l.initial.l.column l.lbytes l.initial.r.column l.rbytes) blame_max (length l.lbytes) l.fn.from l.initial.out l.out l.i l.looked.bytes × (l.fn.from + l.looked.offsets ≡ l.i)
