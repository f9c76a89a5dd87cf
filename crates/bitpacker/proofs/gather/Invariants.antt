use Prim.Native.Nat.{◌+◌, ◌-◌}
use mathlib.Core.Path.{◌≡◌}
use lib.ListN.{take, drop}
use Rattle.format.specs.Packing.{bytes_num}
use Rattle.bitpacker.proofs.gather.Given as goal

abbrev pub invariant-loop-k : goal.invariant-loop-k
invariant-loop-k l = l.word ≡ bytes_num (take (l.n - l.k) (drop (l.at + l.k) l.area))
