-- `line::intercept_of` meets its contract, by what the loop keeps.
-- Assumes nothing.
use Rattle.std.proofs.Common.{◌≡◌, sym, ap, ◌∙◌, List, ℕ, ◌+◌, ◌≤◌, ◌<◌, length, get_or, drop, arith}
use Rattle.format.specs.Stats.{fold_from, reduce}
use Rattle.format.proofs.Folds.{fold_step, fold_end, reduce_start}
use Rattle.format.specs.Word.{mod_sub}
use Rattle.format.specs.Line.{through, line_at, residuals, nearer}
use Rattle.format.proofs.Lines.{residuals-length, residual_at}
use Rattle.line.proofs.intercept_of.Goals as goal

-- the first value's turn, before the loop
start : (base slope : ℕ) (ys : List ℕ) → 0 < length ys → fold_from (nearer base) (mod_sub (get_or ys 0 0) (line_at (through slope) 0)) (drop 1 (residuals (through slope) ys)) ≡ reduce (nearer base) (residuals (through slope) ys)
start base slope ys h =
    ap (λ (o : ℕ). fold_from (nearer base) o (drop 1 (residuals (through slope) ys))) (sym (residual_at (through slope) ys 0 h))
    ∙ reduce_start (nearer base) (residuals (through slope) ys) (rw residuals-length h)

-- one more value
step : (base best slope : ℕ) (ys : List ℕ) (i : ℕ) → i < length ys → fold_from (nearer base) best (drop i (residuals (through slope) ys)) ≡ fold_from (nearer base) (nearer base best (mod_sub (get_or ys i 0) (line_at (through slope) i))) (drop (i + 1) (residuals (through slope) ys))
step base best slope ys i h =
    fold_step (nearer base) best (residuals (through slope) ys) i (rw residuals-length h)
    ∙ ap (λ (o : ℕ). fold_from (nearer base) (nearer base best o) (drop (i + 1) (residuals (through slope) ys))) (residual_at (through slope) ys i h)

-- the end of the values
finish : (base best slope : ℕ) (ys : List ℕ) (i : ℕ) → length ys ≤ i → fold_from (nearer base) best (drop i (residuals (through slope) ys)) ≡ best
finish base best slope ys i h = fold_end (nearer base) best (residuals (through slope) ys) i (rw residuals-length h)

pub loop-i-init : goal.loop-i-init
loop-i-init c = rw (c.sub-base.ensures, c.residual-best.ensures) (start _ _ _ c.requires)

pub loop-i-preserved : goal.loop-i-preserved
loop-i-preserved c = rw (c.nearer_of-best.ensures, c.residual-offset.ensures) (sym (step _ _ _ _ _ (omega arith)) ∙ c.loop-i.invariant)

pub returns : goal.returns
returns c = sym (finish _ _ _ _ _ c.loop-i-test.false) ∙ c.loop-i.invariant
