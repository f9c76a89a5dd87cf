-- `take_through` meets its contract: the values of a chunk that decodes as a whole, or row by row.
-- Assumes nothing.
use mathlib.Core.Path.{refl}
use Rattle.read_chunk.proofs.Stretches.{copied_whole}
use Rattle.read_chunk.proofs.taking.take_through.Goals as goal

pub returns-in-Ok : goal.returns-in-Ok
returns-in-Ok c = copied_whole _ _ _ _ _ _ _ (rw c.in-Ok.is at c.decode-answer.ensures.answer) refl c.copy.ensures

pub returns-in-Err : goal.returns-in-Err
returns-in-Err c = c.store_rows.ensures
