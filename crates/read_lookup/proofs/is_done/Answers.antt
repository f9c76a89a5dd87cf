-- `read_lookup::is_done` meets its contract: what the count tells is what reading would find.
-- Assumes nothing.
use Rattle.read_lookup.proofs.Rests.{told_done, told_all}
use Rattle.read_lookup.proofs.is_done.Goals as goal

pub returns-then-total-w : goal.returns-then-total-w
returns-then-total-w c = λ test read window o before storing many answer f. record { either = told_done test read f _ storing many answer c.if-total-w.true }

pub returns : goal.returns
returns c = λ test read window o before storing many answer f. record { either = rw c.put_all.ensures (told_all test read f _ storing many answer c.if-total-w-2.false) }
