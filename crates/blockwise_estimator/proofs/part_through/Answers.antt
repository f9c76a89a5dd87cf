-- `part_through` meets its contract: the residuals that fitting left are packed, and the line and the width are written, where there is room for both.
-- Assumes nothing.
use native.Mathlib.Omega.{arith}
use Rattle.blockwise_estimator.proofs.Parts.{part_few, room_of, entry_room, placed_of}
use Rattle.blockwise_estimator.proofs.part_through.Goals as goal

pub pack_at-behind-requires : goal.pack_at-behind-requires
pack_at-behind-requires c = room_of (part_few c.requires.part) c.fit_part-fit.ensures c.requires.places.first

pub fields_write-end-requires : goal.fields_write-end-requires
fields_write-end-requires c =
    let room = entry_room _ _ c.fit_part-fit.ensures c.requires.places.second in
    omega (arith, room, c.pack_at-behind.auto.out)

pub returns : goal.returns
returns c = placed_of c.fit_part-fit.ensures c.pack_at-behind.ensures c.fields_write-end.ensures
