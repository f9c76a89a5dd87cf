-- `replay_recording::is_recording` meets its contract: the header, the regions, and every record.
-- Assumes nothing.
use mathlib.Core.Path.{sym, ◌∙◌}
use borrow.Author.Tests.{not-true, not-false}
use Rattle.replay_recording.proofs.Numbers.{not_long, bad_regions, by_records}
use Rattle.replay_recording.proofs.is_recording.Goals as goal

pub returns-then-recording-lt16 : goal.returns-then-recording-lt16
returns-then-recording-lt16 c = not_long _ c.if-recording-lt16.true

pub returns-then-not-regions_fit : goal.returns-then-not-regions_fit
returns-then-not-regions_fit c = bad_regions _ c.if-recording-lt16.false c.header_of-head.ensures (sym c.regions_fit.ensures ∙ not-true _ c.if-not-regions_fit.true-raw)

pub returns : goal.returns
returns c = by_records _ c.if-recording-lt16.false c.header_of-head.ensures (sym c.regions_fit.ensures ∙ not-false _ c.if-not-regions_fit.false-raw) c.all_stand.ensures
