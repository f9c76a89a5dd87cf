-- `replay_walk::walking::turned` meets its contract: a refused row, a row that was not recorded, or rows that were.
-- Assumes nothing.
use mathlib.Core.Path.{◌∙◌, ap}
use mathlib.Core.Bool.{Bool, false}
use mathlib.Core.List.{List}
use Prim.Native.Nat.{ℕ}
use borrow.Author.Tests.{not-true, not-false}
use Rattle.format.specs.Outcome.{pick}
use Rattle.format.specs.Replaying.{same_rows}
use Rattle.read_chunk.proofs.Chunks.{whole_run, refused_run}
use Rattle.replay_walk.specs.Walking.{to_come}
use Rattle.replay_walk.proofs.Walks.{ended, left_over, left_some, refuses, strays}
use Rattle.replay_walk.proofs.walking.turned.Goals as goal

pub returns-in-Err : goal.returns-in-Err
returns-in-Err c = record { by_index = (λ read values f d same. ended _ _ _ c.differs.result c.differs.ensures.0 c.differs.ensures.1 (refuses f c.args.size c.requires.2 c.in-Err.field-0 (refused_run d c.in-Err.is))); result_bound = left_over c.differs.result c.differs.ensures.0 _ (left_some c.args.w c.requires.0 c.requires.3) }

pub returns-then-not-met : goal.returns-then-not-met
returns-then-not-met c =
    record {
      by_index = (λ read values f d same.
          ended _ _ _ c.differs-then-not-met.result c.differs-then-not-met.ensures.0 c.differs-then-not-met.ensures.1
          (strays f c.args.size c.requires.2 values (whole_run d c.in_default.is) (λ rest. same rest ∙ ap ((let by-same-here : (rest : List ℕ) → Bool → Bool = λ rest t. pick t (same_rows rest (to_come c.args.w.head c.args.recording.now c.args.w.item c.args.met.n)) false in by-same-here) rest) (not-true c.args.met.same c.if-not-met.true))));
      result_bound = left_over c.differs-then-not-met.result c.differs-then-not-met.ensures.0 _ (left_some c.args.w c.requires.0 c.requires.3);
    }

pub returns : goal.returns
returns c = record { by_index = (λ read values f d same. c.behind.ensures.by_index read values f (whole_run d c.in_default.is) (λ rest. same rest ∙ ap ((let by-same-here : (rest : List ℕ) → Bool → Bool = λ rest t. pick t (same_rows rest (to_come c.args.w.head c.args.recording.now c.args.w.item c.args.met.n)) false in by-same-here) rest) (not-false c.args.met.same c.if-not-met.false))); result_bound = c.behind.ensures.result_bound }
