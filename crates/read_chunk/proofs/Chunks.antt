-- The chunk at hand of the rows up to an end, and what decoding it found.
--     chunk_some, chunk_to                          it has rows, and ends by the end
--     in_block                                      its rows, read with its block
--     decoded_at                                    what decoding it found, with the table
--     whole_run, refused_run                        the same by its answer
--     front_chunk                                   a buffer's front of its size
-- Assumes nothing.
use Rattle.std.specs.Prelude.{Result, Ok, Err}
use Prim.Native.Nat.{ℕ, ◌+◌, ◌-◌, ◌/◌, ◌%◌, ◌^◌, ◌<◌, ◌≤◌}
use mathlib.Core.Path.{◌≡◌, sym, ◌∙◌}
use mathlib.Core.List.{List}
use native.Mathlib.Omega.{arith}
use lib.ListN.{length, take}
use Rattle.format.specs.declared.Block.{Block}
use Rattle.format.specs.declared.Column.{Column}
use Rattle.format.specs.declared.Refusal.{Refusal}
use Rattle.format.specs.Outcome.{Outcome, Outcome.value}
use Rattle.format.specs.Reading.{column_row, block_at, row_in, row_at}
use Rattle.format.specs.Refusals.{numbered}
use Rattle.format.specs.Runs.{read_run}
use Rattle.format.proofs.Runs.{run_agree}
use Rattle.format.proofs.Lists.{front_length}
use Rattle.read_row.specs.Chunks.{DecodedAs, Chunk, chunk_size}
use Rattle.read_row.proofs.Moving.{any_block}

module _ (q at end n : ℕ) (to : at < end) (size : n ≡ chunk_size q (end - at)) where
  pub chunk_some : 0 < n
  chunk_some = omega (arith, size)

  pub chunk_to : at + n ≤ end
  chunk_to = omega (arith, size)

-- read with the chunk's block out of the table
pub in_block : (col : Column) → col.rows < 2 ^ 32 → (t : List Block) (s : List ℕ) (r n : ℕ) {blocks : ℕ} {b : Block} → blocks ≡ length t → b ≡ block_at t (column_row col r % 2 ^ 32 / 512)
    → column_row col r % 512 + n ≤ 512 → (x : ℕ) → r ≤ x → x < r + n → row_in col blocks b s x ≡ row_at col t s x
in_block col few t s r n {blocks} {b} number block one x low high =
    let same : column_row col r % 2 ^ 32 / 512 ≡ column_row col x % 2 ^ 32 / 512 = omega arith in
    rw (number, block, same) (any_block col few x t s)

-- what decoding it found, with the table
pub decoded_at : (col : Column) → col.rows < 2 ^ 32 → (bytes : List ℕ) (at left n blocks : ℕ) (b : Block) → n ≡ chunk_size (column_row col at) left → {list : List ℕ} {d : Result (Unit {0}) Refusal}
    → DecodedAs (read_run (row_in col blocks b bytes) at n) d list → (t : List Block) → blocks ≡ length t → b ≡ block_at t (column_row col at % 2 ^ 32 / 512) → DecodedAs (read_run (row_at col t bytes) at n) d list
decoded_at col few bytes at left n blocks b size means t number block =
    record { answer = means.answer ∙ run_agree (row_in col blocks b bytes) (row_at col t bytes) at n (in_block col few t bytes at n number block (omega (arith, size))) }

module _ {o : Outcome (List ℕ)} {list : List ℕ} {d : Result (Unit {0}) Refusal} (means : DecodedAs o d list) where
  pub whole_run : d ≡ (Ok tt) → o ≡ value list
  whole_run is = sym (rw is at means.answer)

  pub refused_run : {x : Refusal} → d ≡ Err x → o ≡ numbered x
  refused_run is = sym (rw is at means.answer)

-- a buffer's front of the chunk's size is the chunk's
pub front_chunk : (col : Column) (r size : ℕ) (buffer : List ℕ) (room : ℕ) → length buffer ≡ 512 → r < col.window.rows → size ≡ chunk_size (column_row col r) (col.window.rows - r) → 512 ≤ room
    → Chunk col.window.rows col.window.first r (length (take size buffer)) × (length (take size buffer) ≤ room)
front_chunk col r size buffer room full inside is enough =
    let long = front_length size buffer full (omega arith) in
    (record { some = omega arith; inside = omega arith; one = omega arith }, omega arith)
