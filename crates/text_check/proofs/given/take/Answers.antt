-- `text_check::given::take` meets its contract: too many bytes, a value that is cut off, or all of them.
-- Assumes nothing.
use Rattle.text_check.proofs.Inputs.{took_many, took_cut, took_all}
use Rattle.text_check.proofs.given.take.Goals as goal

pub returns-then-file-gt-FILE_MAX : goal.returns-then-file-gt-FILE_MAX
returns-then-file-gt-FILE_MAX c = took_many _ c.if-file-gt-FILE_MAX.true

pub returns-then-file-ne0 : goal.returns-then-file-ne0
returns-then-file-ne0 c = took_cut _ c.if-file-gt-FILE_MAX.false c.if-file-ne0.true

pub returns : goal.returns
returns c = took_all _ c.if-file-gt-FILE_MAX.false c.if-file-ne0.false c.put_values.ensures
