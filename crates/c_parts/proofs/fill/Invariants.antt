-- What is put, joined with what comes from here on, is what is to be put.
use Rattle.std.proofs.Common.{◌-◌}
use Rattle.c_parts.proofs.Filling.{Filling}
use Rattle.c_parts.proofs.fill.Given as goal

abbrev pub invariant-loop-parts : goal.invariant-loop-parts
invariant-loop-parts l = Filling l.bytes l.column l.fn.from l.initial.list l.list l.place l.parts

abbrev pub decreases-loop-parts : goal.decreases-loop-parts
decreases-loop-parts l = l.room - l.parts
