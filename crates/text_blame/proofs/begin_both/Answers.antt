-- `begin_both` meets its contract: the only line, by the first test that gives one, or both columns.
-- Assumes nothing.
use mathlib.Core.Path.{sym, ◌∙◌}
use lib.ListN.{length}
use native.Mathlib.Omega.{arith}
use borrow.Author.Tests.{eq-eqb}
use Rattle.text_blame.proofs.Beginnings.{begun_only, begun_both, starts_field, starts_both}
use Rattle.text_blame.proofs.begin_both.Goals as goal

pub returns-in-Some : goal.returns-in-Some
returns-in-Some c = begun_only (starts_field c.args.left.now c.args.right.now c.requires.0 c.requires.1 (eq-eqb (length c.args.left.now) (length c.args.right.now) (omega arith)) (sym c.first_field.ensures ∙ c.in-Some.is)) c.field_line.ensures.wrote c.field_line.ensures.prefix_len

pub returns : goal.returns
returns c = begun_both (starts_both c.args.left.now c.args.right.now c.requires.0 c.requires.1 (eq-eqb (length c.args.left.now) (length c.args.right.now) (omega arith)) (sym c.first_field.ensures ∙ c.in_default.is))
