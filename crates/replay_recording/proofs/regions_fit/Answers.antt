-- `replay_recording::regions_fit` meets its contract: each region, and both together.
-- Assumes nothing.
use mathlib.Core.Path.{sym, ◌∙◌}
use borrow.Author.Tests.{not-true, not-false}
use Rattle.replay_recording.proofs.regions_fit.Goals as goal

pub returns-then-not-in_place : goal.returns-then-not-in_place
returns-then-not-in_place c = rw (sym c.in_place.ensures ∙ not-true _ c.if-not-in_place.true-raw)

pub returns-then-not-in_place-2 : goal.returns-then-not-in_place-2
returns-then-not-in_place-2 c = rw (sym c.in_place.ensures ∙ not-false _ c.if-not-in_place.false-raw, sym c.in_place-2.ensures ∙ not-true _ c.if-not-in_place-2.true-raw)

pub returns : goal.returns
returns c = rw (sym c.in_place.ensures ∙ not-false _ c.if-not-in_place.false-raw, sym c.in_place-2.ensures ∙ not-false _ c.if-not-in_place-2.false-raw) c.are_apart.ensures
