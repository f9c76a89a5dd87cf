-- `replay_walk::walking::begin` meets its contract: bytes that are no recording, or the first record that has rows.
-- Assumes nothing.
use mathlib.Core.Path.{sym, ◌∙◌}
use borrow.Author.Tests.{not-true, not-false}
use Rattle.replay_walk.proofs.Walks.{ended, refused, begins}
use Rattle.replay_walk.proofs.walking.begin.Goals as goal

pub returns-then-not-is_recording : goal.returns-then-not-is_recording
returns-then-not-is_recording c = λ read. ended read _ _ c.over.result c.over.ensures.0 c.over.ensures.1 (refused read _ _ (sym c.is_recording.ensures ∙ not-true _ c.if-not-is_recording.true-raw))

pub returns : goal.returns
returns c = λ read. c.go_on.ensures.by_index read (begins read _ _ c.header_of.ensures (sym c.is_recording.ensures ∙ not-false _ c.if-not-is_recording.false-raw))
