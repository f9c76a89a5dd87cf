-- `replay_recording::are_apart` meets its contract: an empty region, or one behind the other.
-- Assumes nothing.
use mathlib.Core.Path.{refl}
use borrow.Author.Tests.{eq-eqb, ne_eqb, le-leb, lt-leb}
use Rattle.replay_recording.proofs.are_apart.Goals as goal

pub returns-then-head-eq0 : goal.returns-then-head-eq0
returns-then-head-eq0 c = rw (eq-eqb _ _ c.if-head-eq0.true)

pub returns-then-head-eq0-2 : goal.returns-then-head-eq0-2
returns-then-head-eq0-2 c = rw (ne_eqb _ _ c.if-head-eq0.false, eq-eqb _ _ c.if-head-eq0-2.true)

pub returns-then-start-head : goal.returns-then-start-head
returns-then-start-head c = rw (ne_eqb _ _ c.if-head-eq0.false, ne_eqb _ _ c.if-head-eq0-2.false, le-leb _ _ c.if-start-head.true)

pub returns : goal.returns
returns c = rw (ne_eqb _ _ c.if-head-eq0.false, ne_eqb _ _ c.if-head-eq0-2.false, lt-leb _ _ c.if-start-head.false) refl
