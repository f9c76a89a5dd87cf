-- `read_row::reader::decode` meets its contract: what fits at the last row fits at all; otherwise the rows go one by one.
-- Assumes nothing.
use Prim.Native.Nat.{ℕ, ◌+◌, ◌-◌, ◌%◌, ◌^◌, ◌<◌}
use mathlib.Core.Path.{◌≡◌, sym, ap, ◌∙◌, subst}
use mathlib.Core.Bool.{true}
use mathlib.Core.List.{List}
use native.Mathlib.Omega.{arith}
use borrow.Author.Rules.{rules}
use borrow.Author.Tests.{lt-ltb, le-ltb}
use Rattle.format.specs.declared.Block.{Block}
use Rattle.format.specs.declared.Column.{Column}
use Rattle.format.specs.Reading.{column_row, fits, value_at, row_in}
use Rattle.format.specs.Runs.{read_run, filled_to}
use Rattle.read_row.specs.Chunks.{FilledAs, Chunk}
use Rattle.read_row.proofs.Fitting.{chunk_reads}
use Rattle.read_row.proofs.Moving.{moved-fits, asked_filled}
use Rattle.read_row.proofs.Counted.{same_there, chunk_there, fitting_there}
use Rattle.read_row.proofs.reader.decode.Goals as goal

-- what fits at the last row as the code counts it
last_fits : (col : Column) → col.rows < 2 ^ 32 → (blocks : ℕ) (b : Block) (s : List ℕ) (r n : ℕ) → Chunk col.window.rows col.window.first r n
    → fits col blocks b s (column_row col (r + (n - 1)) % 2 ^ 32) ≡ true → fits col blocks b s (column_row col (r + (n - 1))) ≡ true
last_fits col few blocks b s r n chunk e = sym (moved-fits col few (r + (n - 1)) blocks b s (omega (arith, chunk.some, chunk.inside))) ∙ e

-- what filling the list came to, as the window counts
filled : (col : Column) → col.rows < 2 ^ 32 → (blocks : ℕ) (b : Block) (s : List ℕ) (r n : ℕ) → Chunk col.window.rows col.window.first r n
    → fits col blocks b s (column_row col (r + (n - 1))) ≡ true → (at : ℕ) → at ≡ column_row col r % 2 ^ 32
    → (k : ℕ) (list : List ℕ) → FilledAs (read_run (value_at col b s) at n) k at list → filled_to k r list ≡ read_run (row_in col blocks b s) r n
filled col few blocks b s r n chunk fit at first k list e =
    asked_filled col b s list r n k
    (subst (λ (q : ℕ). filled_to k q list ≡ read_run (value_at col b s) q n) (same_there col few blocks b s r n chunk fit at first) e.answer)
    ∙ sym (chunk_reads _ _ _ _ _ _ chunk fit)

pub decode_fitting-n-requires : goal.decode_fitting-n-requires
decode_fitting-n-requires c =
    let few : c.args.column.rows < 2 ^ 32 = search rules in
    let fit = last_fits _ few _ _ _ _ _ c.requires (sym (ap (fits c.args.column c.args.blocks c.args.block c.args.bytes.now) c.column_row-last.ensures) ∙ sym c.fits.ensures ∙ c.if-not-fits.false) in
    record {
      chunk = chunk_there _ few _ _ _ _ _ c.requires fit _ c.column_row-at.ensures;
      fitting = fitting_there _ few _ _ _ _ _ c.requires fit _ c.column_row-at.ensures;
    }

pub overflow_add-result : goal.overflow_add-result
overflow_add-result c =
    let wide : c.args.column.window.rows < 2 ^ 32 = search rules in
    omega (arith, c.requires.inside, wide, c.if-n-out.true)

pub returns-then-n-out : goal.returns-then-n-out
returns-then-n-out c =
    let few : c.args.column.rows < 2 ^ 32 = search rules in
    let fit = last_fits _ few _ _ _ _ _ c.requires (sym (ap (fits c.args.column c.args.blocks c.args.block c.args.bytes.now) c.column_row-last.ensures) ∙ sym c.fits.ensures ∙ c.if-not-fits.false) in
    record { answer = rw (lt-ltb _ _ c.if-n-out.true) at (filled _ few _ _ _ _ _ c.requires fit _ c.column_row-at.ensures _ _ c.decode_fitting-n.ensures) }

pub returns : goal.returns
returns c =
    let few : c.args.column.rows < 2 ^ 32 = search rules in
    let fit = last_fits _ few _ _ _ _ _ c.requires (sym (ap (fits c.args.column c.args.blocks c.args.block c.args.bytes.now) c.column_row-last.ensures) ∙ sym c.fits.ensures ∙ c.if-not-fits.false) in
    record { answer = rw (le-ltb _ _ c.if-n-out.false) at (filled _ few _ _ _ _ _ c.requires fit _ c.column_row-at.ensures _ _ c.decode_fitting-n.ensures) }
