-- `fit_block` meets its contract: the trained line, the residuals over it, and the width of the greatest of them.
-- Assumes nothing.
use Prim.Native.Nat.{ℕ}
use mathlib.Core.Path.{◌≡◌, ap, ◌∙◌}
use mathlib.Core.List.{List}
use Rattle.format.specs.declared.Line.{Line}
use Rattle.format.specs.Packing.{width}
use Rattle.format.specs.Stats.{greatest}
use Rattle.format.specs.Line.{trained, residuals}
use Rattle.format.specs.Bodies.{block_residuals, block_width}
use Rattle.blockwise_estimator.specs.Writer.{Fitted}
use Rattle.blockwise_estimator.proofs.fit_block.Goals as goal

-- the parts of a fit
fitted : (ys rows : List ℕ) (l : Line) (m w : ℕ) → l ≡ trained ys → rows ≡ residuals l ys → m ≡ greatest rows → w ≡ width m → Fitted ys rows (record { line = l; bits = w })
unfolding block_residuals block_width
fitted ys rows l m w e r g h =
    let is : rows ≡ residuals (trained ys) ys = r ∙ ap (λ (k : Line). residuals k ys) e in
    record { line = e; bits = h ∙ ap width (g ∙ ap (λ (x : List ℕ). greatest x) is); left = is }

pub returns : goal.returns
returns c = fitted _ _ _ _ _ c.train-line.ensures c.to_residuals.ensures c.greatest.ensures c.compute_num_bits-bits.ensures
