-- The footer's length, and opening by the area alone.
--     length_step, length_small             the last bytes as one number, gathered from the end
--     column_by_area                        what opening finds depends on the blocks only through the bytes of their area and their spelling
-- Assumes nothing.
use Rattle.std.specs.Prelude.{Option}
use mathlib.Core.Path.{◌≡◌, refl, ap, ◌∙◌}
use mathlib.Core.Bool.{Bool, true, false, ◌&&◌}
use mathlib.Core.List.{List, [], ◌∷◌}
use Prim.Native.Nat.{ℕ, suc, ◌+◌, ◌-◌, ◌*◌, ◌^◌, ◌≤◌, ◌<◌}
use native.Mathlib.Omega.{arith}
use lib.Dec.{leb}
use lib.ListN.{length, drop, get_or, length-drop}
use lib.Seq.{drop-cons, take_all}
use Rattle.format.specs.declared.Column.{Column}
use Rattle.format.specs.declared.Head.{Head}
use Rattle.format.specs.Outcome.{Outcome, Outcome.value, Outcome.refusal, ◌>>=◌, ◌>>◌, demand}
use Rattle.format.specs.Word.{AllBelow}
use Rattle.format.specs.Packing.{bytes_num}
use Rattle.format.specs.Bodies.{block_count}
use Rattle.format.specs.Opening.{Loaded, Table, column_in, open_blockwise}
use Rattle.format.proofs.Lists.{all_drop}
use Rattle.format.proofs.Gathering.{bytes_num_below}
use Rattle.format.proofs.Openings.{blockwise_of}
use Rattle.blockwise_linear.specs.Reader.{length_in, first_cursor, blocks_from, area_in, column_over}

-- ---- the footer's length

-- one byte more, in front of those gathered
pub length_step : (s : List ℕ) (at : ℕ) → 0 < at → at ≤ length s → bytes_num (drop at s) * 256 + get_or s (at - 1) 0 ≡ bytes_num (drop (at - 1) s)
unfolding bytes_num
length_step s at some within =
    let next : at ≡ suc (at - 1) = omega arith in
    let here : bytes_num (drop (at - 1) s) ≡ get_or s (at - 1) 0 + 256 * bytes_num (drop (suc (at - 1)) s) = ap bytes_num (drop-cons s (at - 1) 0 (omega arith)) in
    omega (arith, here, ap (λ (j : ℕ). bytes_num (drop j s)) next)

-- four bytes stand for a number of 32 bits
pub length_small : (s : List ℕ) (at : ℕ) → AllBelow 256 s → length s - 4 ≤ at → bytes_num (drop at s) < 2 ^ 32
length_small s at bytes late =
    let few : length (drop at s) ≤ 4 = omega (arith, length-drop at s) in
    rw (← take_all 4 (drop at s) few) (bytes_num_below 4 (drop at s) (all_drop at s bytes))

-- ---- opening by the area

-- two demands that refuse alike are one
both : {A : Type 0} (a b : Bool) (n : ℕ) (also : List ℕ) (o : Outcome A) → (demand a n also >> (demand b n also >> o)) ≡ (demand (a && b) n also >> o)
both true b n also o = refl
both false b n also o = refl

-- what was found behind a demand
column_behind : (t : Bool) (n : ℕ) (also : List ℕ) (o : Outcome Loaded) → column_in (demand t n also >> o) ≡ (demand t n also >> column_in o)
column_behind true n also o = refl
column_behind false n also o = refl

-- the blocks as their area alone
column_area : (h : Head) (end : ℕ) (o : Outcome Table)
    → column_in (o >>= (λ (t : Table). demand (leb (h.next + t.area) end) 10 [] >> value (blockwise_of h t)))
    ≡ (area_in o >>= column_over h end)
column_area h end (value t) = column_behind (leb (h.next + t.area) end) 10 [] (value (blockwise_of h t))
column_area h end (refusal n also) = refl

-- opening, as the code goes
pub column_by_area : (s : List ℕ) (h : Head) (room : ℕ)
    → column_in (open_blockwise s h room)
    ≡ (demand (leb (h.next + 4) (length s) && leb (h.next + length_in s) (length s - 4)) 10 []
    >> (demand (leb (block_count h.rows) room) 11 (block_count h.rows ∷ [])
    >> (area_in (blocks_from s (first_cursor s h.rows)) >>= column_over h (first_cursor s h.rows).at)))
unfolding open_blockwise
column_by_area s h room =
    let four = leb (h.next + 4) (length s) in
    let fits = leb (h.next + length_in s) (length s - 4) in
    let enough = leb (block_count h.rows) room in
    let end = (first_cursor s h.rows).at in
    let blocks = blocks_from s (first_cursor s h.rows) in
    let also = block_count h.rows ∷ [] in
    let inner : Outcome Loaded = blocks >>= (λ (t : Table). demand (leb (h.next + t.area) end) 10 [] >> value (blockwise_of h t)) in
    ap column_in (both four fits 10 [] (demand enough 11 also >> inner))
    ∙ column_behind (four && fits) 10 [] (demand enough 11 also >> inner)
    ∙ ap (λ (o : Outcome (Column × (Option ℕ))). demand (four && fits) 10 [] >> o)
    (column_behind enough 11 also inner ∙ ap (λ (o : Outcome (Column × (Option ℕ))). demand enough 11 also >> o) (column_area h end blocks))
