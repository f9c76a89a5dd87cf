-- A byte names at most eight rows, whatever the column.
--     found_few
-- Assumes nothing.
use Rattle.std.specs.Option.{option_or}
use Rattle.std.specs.Prelude.{Option, Some, None}
use Prim.Native.Nat.{ℕ, zero, suc, ◌+◌, ◌-◌, ◌*◌, ◌/◌, ◌≤◌, ◌<◌, min}
use mathlib.Core.Path.{◌≡◌, refl}
use mathlib.Core.Bool.{Bool, true, false, ◌&&◌}
use mathlib.Core.List.{List, []}
use native.Mathlib.Nat.{div-lt_iff_lt-mul, le-div_iff_mul-le}
use native.Mathlib.Omega.{arith}
use borrow.Author.Tests.{ltb-true}
use lib.Dec.{ltb, leb}
use Rattle.format.specs.declared.Block.{Block}
use Rattle.format.specs.declared.Codec.{Codec}
use Rattle.format.specs.declared.Codec.TheVariants.{Bitpacked, Linear, Blockwise}
use Rattle.format.specs.declared.Column.{Column}
use Rattle.format.specs.Bodies.{block_count}
use Rattle.format.specs.Listing.{opened_here}
use Rattle.format.specs.Outcome.{Outcome.value, ◌>>◌, demand, pick}
use Rattle.format.specs.Packing.{width, legal}
use Rattle.format.specs.Parts.{Run, run_owners, block_run, block_owners, area_owners, owners_at}
use Rattle.format.proofs.Tests.{and_right}
use Rattle.byte_part.specs.Bytes.{fits_at}
use Rattle.byte_owner.specs.Bytes.{rows_of}
use Rattle.byte_owner.proofs.Runs.{wide_run}
use Rattle.text_column.specs.Own.{table_of}
use Rattle.text_blame_bytes.specs.Owners.{owners_in, owners_found, Few}

-- seven bits further lie at most seven rows
seven : (bit w : ℕ) → 0 < w → (bit / w ≤ (bit + 7) / w) × ((bit + 7) / w < bit / w + 8)
seven bit w some =
    let q = bit / w in
    let late : bit < (q + 1) * w = (div-lt_iff_lt-mul {k = w} {x = bit} {y = q + 1} some).0 (omega arith) in
    let early : q * w ≤ bit = (le-div_iff_mul-le {k = w} {x = q} {y = bit} some).0 (omega arith) in
    let behind : bit + 7 < (q + 8) * w = omega arith in
    ((le-div_iff_mul-le {k = w} {x = q} {y = bit + 7} some).1 (omega arith), (div-lt_iff_lt-mul {k = w} {x = bit + 7} {y = q + 8} some).1 behind)

run_few : (u : Run) (j : ℕ) → Few (run_owners u j)
unfolding run_owners
run_few u j = go (legal u.bits && leb u.start j && ltb (8 * (j - u.start)) (u.rows * u.bits)) refl
  where
    go : (t : Bool) → (legal u.bits && leb u.start j && ltb (8 * (j - u.start)) (u.rows * u.bits)) ≡ t
        → Few (pick t (Some (u.first + 8 * (j - u.start) / u.bits, u.first + min ((8 * (j - u.start) + 7) / u.bits) (u.rows - 1))) None)
    go false e = tt
    go true e =
        let bit = 8 * (j - u.start) in
        let wide = wide_run bit u.rows u.bits (ltb-true bit (u.rows * u.bits) (and_right (legal u.bits && leb u.start j) _ e)) in
        let near = seven bit u.bits wide.0 in
        (omega (arith, wide, near), omega (arith, near))

else_few : (a b : Option (ℕ × ℕ)) → Few a → Few b → Few (option_or a b)
else_few (Some (first, last)) b p q = p
else_few None b p q = q

blocks_few : (table : List Block) (rows k n j : ℕ) → Few (block_owners table rows k n j)
unfolding block_owners
blocks_few table rows k zero j = tt
blocks_few table rows k (suc n) j = else_few (run_owners (block_run table rows k) j) (block_owners table rows (suc k) n j) (run_few (block_run table rows k) j) (blocks_few table rows (suc k) n j)

area_few : (codec : Codec) (count rows : ℕ) (table : List Block) (j : ℕ) → Few (area_owners codec count rows table j)
unfolding area_owners
area_few Bitpacked count rows table j = run_few (record { start = 0; bits = width count; first = 0; rows = rows }) j
area_few (Linear l w) count rows table j = run_few (record { start = 0; bits = w; first = 0; rows = rows }) j
area_few Blockwise count rows table j = blocks_few table rows 0 (block_count rows) j

pub found_few : (col : Column) (s : List ℕ) (i : ℕ) → Few (owners_found col s i)
unfolding rows_of owners_at
found_few col s i = go (fits_at s col i) (leb col.start i)
  where
    go : (t u : Bool) → Few (owners_in (demand t 13 [] >> value (pick u (area_owners col.codec col.count col.rows (table_of (opened_here s)) (i - col.start)) None)))
    go false u = tt
    go true false = tt
    go true true = area_few col.codec col.count col.rows (table_of (opened_here s)) (i - col.start)
