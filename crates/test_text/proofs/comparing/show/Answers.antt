-- `show` is safe: both columns are columns of their bytes, narrowed or not.
-- Assumes nothing.
use Rattle.text_compare.proofs.Beginnings.{begun_owned}
use Rattle.test_text.proofs.comparing.show.Goals as goal

pub write_rows-requires-clause-owned : goal.write_rows-requires-clause-owned
write_rows-requires-clause-owned g c = c.narrowed-a.ensures _ (begun_owned (rw c.in-Ok.is at c.begin.ensures)).0

pub write_rows-requires-clause-owned_2 : goal.write_rows-requires-clause-owned_2
write_rows-requires-clause-owned_2 g c = c.narrowed-b.ensures _ (begun_owned (rw c.in-Ok.is at c.begin.ensures)).1
