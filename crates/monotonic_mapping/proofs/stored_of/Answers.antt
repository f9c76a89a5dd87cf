-- `monotonic_mapping::stored_of` meets its contract: a number as it is, else the word with the kind's bits inverted, and at most its greatest number.
-- Assumes nothing.
use Rattle.monotonic_mapping.proofs.Arms.{stored_plain, stored_by}
use Rattle.monotonic_mapping.proofs.stored_of.Goals as goal

pub returns-then-is_number : goal.returns-then-is_number
returns-then-is_number c = stored_plain _ _ c.is_number.ensures c.if-is_number.true

pub returns : goal.returns
returns c =
    stored_by c.args.kind c.args.x c.is_number.ensures c.if-is_number.false c.ranges.x.fits c.most_stored-most.ensures
    c.flipped.ensures c.lesser.ensures
