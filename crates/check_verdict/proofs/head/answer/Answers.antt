-- `answer` meets its contract: the row where the walk ended, or the verdict on the head.
-- Assumes nothing.
use mathlib.Core.Path.{ap, ◌∙◌}
use borrow.Author.Tests.{lt-ltb, le-ltb}
use lib.ListN.{length}
use Rattle.format.specs.Checking.{judged_head}
use Rattle.format.proofs.StoredLists.{stored-length}
use Rattle.check_verdict.proofs.head.answer.Goals as goal

pub returns-then-w-values : goal.returns-then-w-values
returns-then-w-values c = rw (stored-length c.args.kind c.args.values.now, lt-ltb c.args.w.at (length c.args.values.now) c.if-w-values.true)

pub returns : goal.returns
returns c = rw (stored-length c.args.kind c.args.values.now, le-ltb c.args.w.at (length c.args.values.now) c.if-w-values.false) (c.judge.ensures ∙ ap (judged_head c.args.column) c.collect.ensures)
