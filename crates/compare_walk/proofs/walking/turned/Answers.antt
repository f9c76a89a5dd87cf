-- `compare_walk::walking::turned` meets its contract: the first row that differs, or the rows behind.
-- Assumes nothing.
use mathlib.Core.Path.{◌∙◌}
use native.Mathlib.Omega.{arith}
use Rattle.compare_walk.proofs.Seeks.{stops_at, goes_behind, go_less}
use Rattle.compare_walk.proofs.walking.turned.Goals as goal

pub returns-then-looked : goal.returns-then-looked
returns-then-looked c =
    let less = c.if-looked.true in
    record {
      by_index = (λ lread rread rows from l r looked f.
          stops_at lread rread rows from f c.requires.1 looked less (c.row_of-lanswer.ensures ∙ l _ (omega arith) (omega (arith, less))) (c.row_of-ranswer.ensures ∙ r _ (omega arith) (omega (arith, less))));
      result_bound = omega (arith, c.requires.0, c.requires.1);
    }

pub returns : goal.returns
returns c = record { by_index = (λ lread rread rows from l r looked f. rw c.go_on.ensures (goes_behind lread rread rows from f c.requires.1 looked c.if-looked.false)); result_bound = rw c.go_on.ensures (go_less c.args.w.at c.args.w.end c.args.looked.size c.requires.0 c.requires.1) }
