-- `replay_walk::walking::met_one` meets its contract: a row that is not looked for, one too many, another, or the next recorded one.
-- Assumes nothing.
use mathlib.Core.Path.{sym, ◌∙◌}
use native.Mathlib.Omega.{arith}
use borrow.Author.Tests.{not-true, not-false}
use Rattle.replay_walk.proofs.Meets.{missed, too_many, another, met}
use Rattle.replay_walk.proofs.walking.met_one.Goals as goal

pub returns-then-not-within : goal.returns-then-not-within
returns-then-not-within c = record { by_index = (λ rest. missed c.args.head c.args.recording.now c.args.item c.args.n c.args.row rest (sym c.within.ensures ∙ not-true _ c.if-not-within.true-raw)); n_le_many = c.requires }

pub returns-then-item-n : goal.returns-then-item-n
returns-then-item-n c = record { by_index = (λ rest. too_many c.args.head c.args.recording.now c.args.item c.args.n c.args.row rest (sym c.within.ensures ∙ not-false _ c.if-not-within.false-raw) c.if-item-n.true); n_le_many = c.requires }

pub returns-then-listed_at-row : goal.returns-then-listed_at-row
returns-then-listed_at-row c = record { by_index = (λ rest. another c.args.head c.args.recording.now c.args.item c.args.n c.args.row rest (sym c.within.ensures ∙ not-false _ c.if-not-within.false-raw) c.if-item-n.false c.listed_at.ensures c.if-listed_at-row.true); n_le_many = c.requires }

pub returns : goal.returns
returns c = record { by_index = (λ rest. met c.args.head c.args.recording.now c.args.item c.args.n c.args.row rest (sym c.within.ensures ∙ not-false _ c.if-not-within.false-raw) c.if-item-n.false c.listed_at.ensures c.if-listed_at-row.false); n_le_many = omega (arith, c.if-item-n.false) }
