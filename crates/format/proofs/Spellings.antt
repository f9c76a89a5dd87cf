-- How many bytes a head and a line are.
--     head_length, line_length_lem      field by field
--     head_few, line_few            at most
-- Assumes nothing.
use mathlib.Core.Path.{◌≡◌}
use Prim.Native.Nat.{◌+◌, ◌≤◌}
use native.Mathlib.Omega.{arith}
use lib.ListN.{length, length-append}
use Rattle.format.specs.declared.ColumnStats.{ColumnStats}
use Rattle.format.specs.declared.Line.{Line}
use Rattle.format.specs.Varint.{spell}
use Rattle.format.specs.Stats.{count_of, spell_head}
use Rattle.format.specs.Line.{spell_line}
use Rattle.format.proofs.Varints.{spell_ten}

pub head_length : (s : ColumnStats) → length (spell_head s) ≡ length (spell s.minimum) + (length (spell s.gcd) + (length (spell (count_of s)) + length (spell s.rows)))
unfolding spell_head
head_length s = simp length-append

pub head_few : (s : ColumnStats) → length (spell_head s) ≤ 40
head_few s = omega (arith, head_length s, spell_ten s.minimum, spell_ten s.gcd, spell_ten (count_of s), spell_ten s.rows)

pub line_length_lem : (l : Line) → length (spell_line l) ≡ length (spell l.slope) + length (spell l.intercept)
unfolding spell_line
line_length_lem l = length-append (spell l.slope) (spell l.intercept)

pub line_few : (l : Line) → length (spell_line l) ≤ 20
line_few l = omega (arith, line_length_lem l, spell_ten l.slope, spell_ten l.intercept)
