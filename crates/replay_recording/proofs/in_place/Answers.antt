-- `replay_recording::in_place` meets its contract: its three tests are the definition's.
-- Assumes nothing.
use mathlib.Core.Path.{refl}
use borrow.Author.Tests.{eq-eqb, ne_eqb, le-leb, lt-leb}
use Rattle.replay_recording.proofs.in_place.Goals as goal

pub returns-then-n-eq0 : goal.returns-then-n-eq0
returns-then-n-eq0 c = rw (eq-eqb _ _ c.if-n-eq0.true)

pub returns-then-at-lt16 : goal.returns-then-at-lt16
returns-then-at-lt16 c = rw (ne_eqb _ _ c.if-n-eq0.false, lt-leb _ _ c.if-at-lt16.true)

pub returns : goal.returns
returns c = rw (ne_eqb _ _ c.if-n-eq0.false, le-leb _ _ c.if-at-lt16.false) refl
