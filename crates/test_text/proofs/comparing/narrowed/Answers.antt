-- `narrowed` meets its contract: what is narrowed is owned as before, and so is what is not.
-- Assumes nothing.
use Rattle.text_column.proofs.Owns.{owned_narrowed}
use Rattle.test_text.proofs.comparing.narrowed.Goals as goal

pub returns-in-Ok : goal.returns-in-Ok
returns-in-Ok c = λ s f. rw c.in-Ok.is at (owned_narrowed _ _ c.narrow.result f c.narrow.ensures.0 c.narrow.ensures.1)

pub returns-in-Err : goal.returns-in-Err
returns-in-Err c = λ s f. rw c.in-Err.is at (owned_narrowed _ _ c.narrow.result f c.narrow.ensures.0 c.narrow.ensures.1)
