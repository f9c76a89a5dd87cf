-- A chunk whose last row fits, from its first row on as the column counts it.
--     window_there                  the window lies in the column
--     same_there                    so the first row is not counted anew
--     chunk_there, fitting_there    what filling a list from there asks for
-- Assumes nothing.
use Prim.Native.Nat.{ℕ, ◌+◌, ◌-◌, ◌%◌, ◌^◌, ◌≤◌, ◌<◌}
use mathlib.Core.Path.{◌≡◌, sym, ◌∙◌, subst}
use mathlib.Core.Bool.{true}
use mathlib.Core.List.{List}
use native.Mathlib.Omega.{arith}
use Rattle.format.specs.declared.Block.{Block}
use Rattle.format.specs.declared.Column.{Column}
use Rattle.format.specs.Reading.{column_row, place_of, fits}
use Rattle.read_row.specs.Chunks.{Chunk, Fitting}
use Rattle.read_row.proofs.Fitting.{fitting, fitting_window, chunk-fits}
use Rattle.read_row.proofs.Moving.{not_moved}

module _
    (col : Column)
    (few : col.rows < 2 ^ 32)
    (blocks : ℕ)
    (b : Block)
    (s : List ℕ)
    (r n : ℕ)
    (chunk : Chunk col.window.rows col.window.first r n)
    (fit : fits col blocks b s (column_row col (r + (n - 1))) ≡ true)
  where
    pub window_there : col.window.first + col.window.rows ≤ col.rows
    window_there = fitting_window _ _ _ _ _ fit

    module _ (at : ℕ) (first : at ≡ column_row col r % 2 ^ 32) where
      pub same_there : at ≡ column_row col r
      same_there = first ∙ not_moved col few r (omega (arith, chunk.some, chunk.inside)) window_there

      pub chunk_there : Chunk col.rows 0 at n
      chunk_there = record {
        some = chunk.some;
        inside = omega (arith, same_there, chunk.inside, window_there);
        one = omega (arith, same_there, chunk.one);
      }

      pub fitting_there : Fitting col (place_of col b at) s
      fitting_there =
          fitting _ _ _ _ _ (subst (λ (q : ℕ). fits col blocks b s q ≡ true) (sym same_there) (chunk-fits _ _ _ _ _ _ chunk fit r (omega arith) (omega (arith, chunk.some))))
