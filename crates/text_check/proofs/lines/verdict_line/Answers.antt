-- `text_check::lines::verdict_line` meets its contract: the line of each verdict; search writes the other verdicts' out by itself.
-- Assumes nothing.
use Rattle.text_check.proofs.lines.verdict_line.Goals as goal

pub returns-in-Err-Minimum-clause-wrote : goal.returns-in-Err-Minimum-clause-wrote
returns-in-Err-Minimum-clause-wrote c = rw (c.in-Err-Minimum.is, rw c.in-Err-Minimum.is at c.in-Err-Minimum.field-0-is) c.text_line-in-Err-Minimum.ensures.wrote

pub returns-in-Err-Maximum-clause-wrote : goal.returns-in-Err-Maximum-clause-wrote
returns-in-Err-Maximum-clause-wrote c = rw (c.in-Err-Maximum.is, rw c.in-Err-Maximum.is at c.in-Err-Maximum.field-0-is) c.text_line-in-Err-Maximum.ensures.wrote
