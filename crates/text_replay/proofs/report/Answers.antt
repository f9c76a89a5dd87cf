-- `report` meets its contract: the line of a column that does not open, of a recording that is too long, or of the replay.
-- Assumes nothing.
use Rattle.text_replay.proofs.Reports.{reported_column, reported_long, reported_run}
use Rattle.text_column.proofs.Answered.{found_column}
use Rattle.text_replay.proofs.report.Goals as goal

pub returns-in_default : goal.returns-in_default
returns-in_default c = (reported_column _ _ c.open_plain-opened.ensures c.in_default.is c.refused_line.ensures.wrote, c.refused_line.ensures.prefix_len)

pub returns-then-recording-gt-RECORDING_MAX : goal.returns-then-recording-gt-RECORDING_MAX
returns-then-recording-gt-RECORDING_MAX c = (reported_long _ _ c.open_plain-opened.ensures c.in-Ok.is c.if-recording-gt-RECORDING_MAX.true c.named_line.ensures.wrote, c.named_line.ensures.prefix_len)

pub replay-replayed-requires : goal.replay-replayed-requires
replay-replayed-requires c = found_column _ c.open_plain-opened.ensures c.in-Ok.is

pub returns : goal.returns
returns c = (reported_run _ _ c.open_plain-opened.ensures c.in-Ok.is c.replay-replayed.result c.if-recording-gt-RECORDING_MAX.false c.replay-replayed.ensures c.report_line.ensures.wrote, c.report_line.ensures.prefix_len)
