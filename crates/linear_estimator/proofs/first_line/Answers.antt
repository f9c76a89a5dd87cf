-- `first_line` meets its contract: the buffer is what the first values are stored as.
-- Assumes nothing.
use Prim.Native.Nat.{ℕ}
use mathlib.Core.Path.{ap, ◌∙◌, sym}
use borrow.Author.Rules.{rules}
use native.Mathlib.Omega.{arith}
use lib.ListN.{get_or}
use Rattle.format.specs.Line.{trained}
use Rattle.format.specs.Typed.{stored_as, stored_in}
use Rattle.format.proofs.StoredLists.{stored-length, stored_at}
use Rattle.linear_estimator.proofs.Deviations.{made_first}
use Rattle.linear_estimator.proofs.first_line.Goals as goal

pub returns : goal.returns
returns c =
    c.train.ensures
    ∙ ap trained
    (made_first (λ (i : ℕ). stored_in c.args.kind (get_or c.args.values.now i 0)) (λ i y q k. search rules) c.from_fn-first.result (stored_as c.args.kind c.args.values.now) 512 c.from_fn-first.ensures.items
    (rw (stored-length c.args.kind c.args.values.now) c.requires)
    (λ i h. sym (stored_at c.args.kind c.args.values.now i (omega arith))))
