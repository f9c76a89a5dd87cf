-- `bitpacker::get_run` meets its contract: the rows before the first group, the groups, and the rows behind them follow each other.
-- Assumes nothing.
use native.Mathlib.Omega.{arith}
use Rattle.format.proofs.Widths.{legal_most}
use Rattle.bitpacker.proofs.RunLaws.{unpacked_none}
use Rattle.bitpacker.proofs.get_run.Goals as goal

pub groups_end-to-requires : goal.groups_end-to-requires
groups_end-to-requires c = (c.requires.1, legal_most _ c.requires.0)

pub returns-then-to-from : goal.returns-then-to-from
returns-then-to-from c = c.singly.ensures (unpacked_none _ _ _ _)

pub singly-requires-2 : goal.singly-requires-2
singly-requires-2 c =
    let r = c.groups_end-to.ensures c.if-to-from.false in
    record { lawful = c.requires.0; ordered = omega arith; room = omega (arith, c.if-to-from.false, r.room); few = c.requires.1 }

pub groups_by_rest-requires : goal.groups_by_rest-requires
groups_by_rest-requires c =
    let r = c.groups_end-to.ensures c.if-to-from.false in
    record {
      lawful = c.requires.0;
      rests = omega arith;
      starts = omega arith;
      ordered = omega (arith, c.if-to-from.false);
      eights = r.eights;
      inside = r.inside;
      room = omega (arith, r.room, c.singly-2.auto);
      few = omega (arith, c.requires.1, c.singly-2.auto);
    }

pub singly-requires-3 : goal.singly-requires-3
singly-requires-3 c =
    let r = c.groups_end-to.ensures c.if-to-from.false in
    record {
      lawful = c.requires.0;
      ordered = r.room;
      room = omega (arith, c.singly-2.auto, c.groups_by_rest.auto);
      few = omega (arith, c.requires.1, c.singly-2.auto, c.groups_by_rest.auto);
    }

pub returns : goal.returns
returns c = c.singly-3.ensures (c.groups_by_rest.ensures (c.singly-2.ensures (unpacked_none _ _ _ _)))
