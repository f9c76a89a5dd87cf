-- `verdict_on` meets its contract: the walk over the rows reads by the blocks of the column's own footer.
-- Assumes nothing.
use Rattle.std.specs.Prelude.{ℕ, Option, Result}
use mathlib.Core.Path.{refl, sym, ap, ◌∙◌}
use native.Mathlib.Omega.{arith}
use lib.ListN.{length}
use Rattle.format.specs.declared.Column.{Column}
use Rattle.format.specs.declared.Refusal.{Refusal}
use Rattle.format.specs.Refusals.{answered_by}
use Rattle.format.specs.Typed.{stored_as}
use Rattle.open_column.specs.Opening.{tabled}
use Rattle.format.proofs.StoredLists.{stored-length}
use Rattle.check_verdict.proofs.Steps.{stretch-kept}
use Rattle.check_verdict.proofs.Verdicts.{rows_few, maximum_fits, blocks-checked, owned, turning_starts, turn_room, turn_less, turn_again, refused_unopened, counts_differ, walked-verdict}
use Rattle.check_verdict.proofs.verdict_on.Goals as goal

pub returns-in-Err : goal.returns-in-Err
returns-in-Err c = λ sheet room e. refused_unopened sheet _ room _ e c.in-Err.is

pub returns-then-column-values : goal.returns-then-column-values
returns-then-column-values c = λ sheet room e. counts_differ sheet _ room (stored_as c.args.kind c.args.values.now) e c.in-Ok.is (length c.args.values.now) (sym (stored-length c.args.kind c.args.values.now)) c.if-column-values.true

pub loop-w-init : goal.loop-w-init
loop-w-init c = turning_starts c.begin-pass.ensures refl

pub pass_to-pass-requires : goal.pass_to-pass-requires
pass_to-pass-requires c =
    let told = c.in-Ok.is in
    let own = owned told c.requires in
    let rows = c.table_rows-rows.ensures ∙ ap (λ (r : Result (Column × Option ℕ) Refusal). tabled (answered_by r)) told in
    record { good = blocks-checked own.1 rows; passing = c.loop-w.invariant.pass }

pub slice_bounds-step-end : goal.slice_bounds-step-end
slice_bounds-step-end c = sym (stretch-kept c.take-stretch.ensures ∙ c.loop-w.invariant.long)

pub step-w-requires : goal.step-w-requires
step-w-requires c =
    let told = c.in-Ok.is in
    let own = owned told c.requires in
    let rows = c.table_rows-rows.ensures ∙ ap (λ (r : Result (Column × Option ℕ) Refusal). tabled (answered_by r)) told in
    let long = sym (stored-length c.args.kind c.args.values.now) in
    turn_room own.1 rows (c.if-column-values.false ∙ long) c.loop-w.invariant c.pass_to-pass.ensures c.block_count-blocks.ensures c.take-stretch.ensures (length c.args.values.now) long

pub loop-w-smaller : goal.loop-w-smaller
loop-w-smaller c =
    let told = c.in-Ok.is in
    let own = owned told c.requires in
    let rows = c.table_rows-rows.ensures ∙ ap (λ (r : Result (Column × Option ℕ) Refusal). tabled (answered_by r)) told in
    let long = sym (stored-length c.args.kind c.args.values.now) in
    turn_less own.1 rows (c.if-column-values.false ∙ long) c.loop-w.invariant c.pass_to-pass.ensures c.block_count-blocks.ensures c.take-stretch.ensures c.step-w.ensures c.loop-w-test.true

pub loop-w-preserved : goal.loop-w-preserved
loop-w-preserved c =
    let told = c.in-Ok.is in
    let own = owned told c.requires in
    let rows = c.table_rows-rows.ensures ∙ ap (λ (r : Result (Column × Option ℕ) Refusal). tabled (answered_by r)) told in
    let long = sym (stored-length c.args.kind c.args.values.now) in
    turn_again own.1 rows (c.if-column-values.false ∙ long) c.loop-w.invariant c.pass_to-pass.ensures c.block_count-blocks.ensures c.take-stretch.ensures c.step-w.ensures

pub answer-requires : goal.answer-requires
answer-requires c =
    let told = c.in-Ok.is in
    let own = owned told c.requires in
    let rows = c.table_rows-rows.ensures ∙ ap (λ (r : Result (Column × Option ℕ) Refusal). tabled (answered_by r)) told in
    (maximum_fits own.1, omega (arith, rows_few own.1, c.if-column-values.false))

pub returns : goal.returns
returns c =
    let told = c.in-Ok.is in
    let long = sym (stored-length c.args.kind c.args.values.now) in
    λ sheet room answer. walked-verdict sheet _ room (stored_as c.args.kind c.args.values.now) answer told (c.if-column-values.false ∙ long) c.loop-w.invariant c.loop-w-test.false c.answer.ensures
