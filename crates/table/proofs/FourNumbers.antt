-- A table was a list of numbers once, four a block, and lies in memory so still: for the same bytes the records hold what the numbers held, and every row answers the same by either.
--     four_each, held                         the numbers of a table are four a block; they are its block, also past the end
--     numbers_read, opening_same              reading a footer, and opening, by numbers and by records: the same refusals, and the numbers are those of the records
--     held_numbers, table_of, held_table, held_once
--                                             a table holds its own numbers; for any flat list there is one table that holds it
--     held_stored                             blocks stored at the front of a table, and their numbers at the front of a flat list
--     answers_same                            a row by any flat list is the row by the table that holds it
--     LeavesSame, records_hold                opening by a call, beside opening by numbers: the answer, what is left in the lent table, and every row of any column
--     held_exactly, numbers-kept              where the flat list is just four numbers a record, it is the table's numbers, before and afterwards
-- Assumes nothing.
use Rattle.std.specs.Option.{option_or}
use Rattle.format.specs.declared.Refusal.{Refusal}
use Rattle.format.specs.Refusals.{answered_by}
use Rattle.std.specs.Prelude.{Option, Result}
use Prim.Native.Nat.{ℕ, zero, suc, ◌+◌, ◌-◌, ◌*◌, ◌/◌, ◌≤◌, ◌<◌, min, suc-le-suc}
use mathlib.Core.Path.{◌≡◌, refl, sym, ap, ◌∙◌}
use mathlib.Core.Bool.{Bool, true, false, ◌&&◌}
use mathlib.Core.Logic.{⊎_elim}
use mathlib.Core.List.{List, [], ◌∷◌}
use native.Mathlib.Nat.{add-zero, zero-add, add-suc, suc-add, le_of_suc-le-suc, not-suc-le-zero, zero-lt-suc}
use native.Mathlib.Omega.{arith}
use lib.Dec.{leb, ltb}
use lib.ListN.{length, take, drop, get_or, set, get_or-append}
use lib.Seq.{sets, sets-eq, length-sets, get_or-set_other, ext_get_or}
use borrow.Author.Tests.{le-ltb}
use Rattle.format.specs.declared.Block.{Block}
use Rattle.format.specs.declared.Codec.{Codec}
use Rattle.format.specs.declared.Codec.TheVariants.{Bitpacked, Linear, Blockwise}
use Rattle.format.specs.declared.Column.{Column}
use Rattle.format.specs.declared.Fields.{Fields}
use Rattle.format.specs.declared.Head.{Head}
use Rattle.format.specs.Outcome.{Outcome, Outcome.value, Outcome.refusal, ◌>>=◌, ◌>>◌, demand, stored}
use Rattle.format.specs.Word.{bytes_for}
use Rattle.format.specs.Packing.{bytes_num}
use Rattle.format.specs.Stats.{read_head}
use Rattle.format.specs.Bodies.{block_count}
use Rattle.format.specs.Opening.{Loaded, Table, column_of, read_fields, block_before, read_blocks, open_bitpacked, open_linear, open_blockwise, open_body, opened, column_in, table_in}
use Rattle.format.specs.Reading.{no_block, column_row, block_at, column_fits, row_fits, fits, place_in, packed_of, value_in, row_in, row_at}
use Rattle.format.specs.Calls.{OpenedAs}
use Rattle.format.proofs.Lists.{below_or}
use Rattle.format.proofs.Openings.{bitpacked_of, linear_of, blockwise_of}
use Rattle.format.proofs.Laid.{opened_laid}
use Rattle.table.specs.FourNumbers.{Numbers, LoadedNumbers, before, read_numbers, open_footer, without, open_body_by, opened_numbers, column_by, numbers_in, blocks_in, block_of_numbers, row_by_numbers, numbers_of, Holds}

-- ---- the numbers of a table

pub four_each : (t : List Block) → length (numbers_of t) ≡ 4 * length t
unfolding numbers_of
four_each [] = refl
four_each (b ∷ t) = ap (λ (m : ℕ). suc (suc (suc (suc m)))) (four_each t) ∙ omega arith

-- four numbers further on is one block further on
shift : (a b c d : ℕ) (t : List ℕ) (k j : ℕ) → get_or (a ∷ b ∷ c ∷ d ∷ t) (4 * suc k + j) 0 ≡ get_or t (4 * k + j) 0
shift a b c d t k j = ap (λ (m : ℕ). get_or (a ∷ b ∷ c ∷ d ∷ t) m 0) four_more
  where
    four_more : 4 * suc k + j ≡ suc (suc (suc (suc (4 * k + j))))
    four_more = omega arith

block_shift : (a b c d : ℕ) (t : List ℕ) (k : ℕ) → block_of_numbers (a ∷ b ∷ c ∷ d ∷ t) (suc k) ≡ block_of_numbers t k
block_shift a b c d t k = λ i. record { line = record { slope = first i; intercept = shift a b c d t k 1 i }; bits = shift a b c d t k 2 i; start = shift a b c d t k 3 i }
  where
    four_more : 4 * suc k ≡ suc (suc (suc (suc (4 * k))))
    four_more = omega arith

    first : get_or (a ∷ b ∷ c ∷ d ∷ t) (4 * suc k) 0 ≡ get_or t (4 * k) 0
    first = ap (λ (m : ℕ). get_or (a ∷ b ∷ c ∷ d ∷ t) m 0) four_more

pub held : (t : List Block) (k : ℕ) → block_of_numbers (numbers_of t) k ≡ block_at t k
unfolding numbers_of
held [] k = refl
held (b ∷ t) zero = refl
held (b ∷ t) (suc k) = block_shift b.line.slope b.line.intercept b.bits b.start (numbers_of t) k ∙ held t k

-- ---- opening

-- the blocks of a footer as numbers
abbrev numbered : Outcome Table → Outcome Numbers
numbered o = o >>= (λ (t : Table). value (record { list = numbers_of t.blocks; area = t.area; longer = t.longer }))

-- what was opened, as numbers
abbrev pub as_numbers : Outcome Loaded → Outcome LoadedNumbers
as_numbers o = o >>= (λ (l : Loaded). value (record { column = l.column; list = numbers_of l.table; longer = l.longer }))

pub numbers_read : (k : ℕ) (s : List ℕ) (at start rows : ℕ) → read_numbers k s at start rows ≡ numbered (read_blocks k s at start rows)
unfolding read_numbers read_blocks numbers_of
numbers_read zero s at start rows = refl
numbers_read (suc k) s at start rows =
    fields (λ (f : Fields). numbers_read k s f.next (start + bytes_for (f.bits * min rows 512)) (rows - 512)) (read_fields s at)
  where
    later : (f : Fields) (o : Outcome Table) → (numbered o >>= (λ (t : Numbers). value (before f start t))) ≡ numbered (o >>= (λ (t : Table). value (block_before f start t)))
    later f (value t) = refl
    later f (refusal number also) = refl

    fields : ((f : Fields) → read_numbers k s f.next (start + bytes_for (f.bits * min rows 512)) (rows - 512) ≡ numbered (read_blocks k s f.next (start + bytes_for (f.bits * min rows 512)) (rows - 512)))
        → (o : Outcome Fields)
        → (o >>= (λ (f : Fields). read_numbers k s f.next (start + bytes_for (f.bits * min rows 512)) (rows - 512) >>= (λ (t : Numbers). value (before f start t))))
        ≡ numbered (o >>= (λ (f : Fields). read_blocks k s f.next (start + bytes_for (f.bits * min rows 512)) (rows - 512) >>= (λ (t : Table). value (block_before f start t))))
    fields rest (value f) =
        rw (rest f)
        (later f (read_blocks k s f.next (start + bytes_for (f.bits * min rows 512)) (rows - 512)))
    fields rest (refusal number also) = refl

footer_same : (s : List ℕ) (h : Head) (room : ℕ) → open_footer s h room ≡ as_numbers (open_blockwise s h room)
unfolding open_footer open_blockwise
footer_same s h room =
    let end = length s - 4 in
    let long = bytes_num (drop end s) in
    rw (numbers_read (block_count h.rows) (take end s) (end - long) 0 h.rows)
    (go (leb (h.next + 4) (length s)) (leb (h.next + long) end) (leb (block_count h.rows) room) (read_blocks (block_count h.rows) (take end s) (end - long) 0 h.rows) (end - long))
  where
    area : (t : Table) (w : Bool)
        → (demand w 10 [] >> value (record { column = (blockwise_of h t).column; list = numbers_of t.blocks; longer = (blockwise_of h t).longer }))
        ≡ as_numbers (demand w 10 [] >> value (blockwise_of h t))
    area t true = refl
    area t false = refl

    go : (t u v : Bool) (o : Outcome Table) (to : ℕ)
        → (demand t 10 [] >> (demand u 10 [] >> (demand v 11 (block_count h.rows ∷ []) >> (numbered o
        >>= (λ (n : Numbers). demand (leb (h.next + n.area) to) 10 []
        >> value (record { column = column_of h h.next n.area Blockwise; list = n.list; longer = option_or h.longer n.longer }))))))
        ≡ as_numbers (demand t 10 [] >> (demand u 10 [] >> (demand v 11 (block_count h.rows ∷ []) >> (o
        >>= (λ (b : Table). demand (leb (h.next + b.area) to) 10 [] >> value (blockwise_of h b))))))
    go false u v o to = refl
    go true false v o to = refl
    go true true false o to = refl
    go true true true (refusal number also) to = refl
    go true true true (value b) to = area b (leb (h.next + b.area) to)

-- a codec without blocks has no numbers
none_bitpacked : (s : List ℕ) (h : Head) → without (open_bitpacked s h) ≡ as_numbers (open_bitpacked s h)
unfolding open_bitpacked numbers_of
none_bitpacked s h = go (leb _ (length s))
  where
    go : (t : Bool) → without (demand t 10 [] >> value (bitpacked_of h)) ≡ as_numbers (demand t 10 [] >> value (bitpacked_of h))
    go true = refl
    go false = refl

none_linear : (s : List ℕ) (h : Head) → without (open_linear s h) ≡ as_numbers (open_linear s h)
unfolding open_linear numbers_of
none_linear s h = go (read_fields s h.next)
  where
    met : (f : Fields) (t : Bool) → without (demand t 10 [] >> value (linear_of h f)) ≡ as_numbers (demand t 10 [] >> value (linear_of h f))
    met f true = refl
    met f false = refl

    go : (o : Outcome Fields)
        → without (o >>= (λ (f : Fields). demand (leb (f.next + (linear_of h f).column.size) (length s)) 10 [] >> value (linear_of h f)))
        ≡ as_numbers (o >>= (λ (f : Fields). demand (leb (f.next + (linear_of h f).column.size) (length s)) 10 [] >> value (linear_of h f)))
    go (value f) = met f (leb (f.next + (linear_of h f).column.size) (length s))
    go (refusal number also) = refl

pub opening_same : (s : List ℕ) (room : ℕ) → opened_numbers s room ≡ as_numbers (opened s room)
unfolding opened_numbers open_body_by opened open_body
opening_same [] room = refl
opening_same (c ∷ s) room = go (leb c 2) (read_head (c ∷ s))
  where
    body : (k : ℕ) (h : Head) → open_body_by k (c ∷ s) h room ≡ as_numbers (open_body k (c ∷ s) h room)
    body zero h = none_bitpacked (c ∷ s) h
    body (suc zero) h = none_linear (c ∷ s) h
    body (suc (suc k)) h = footer_same (c ∷ s) h room

    go : (t : Bool) (o : Outcome Head)
        → (demand t 5 [] >> (o >>= (λ (h : Head). open_body_by c (c ∷ s) h room))) ≡ as_numbers (demand t 5 [] >> (o >>= (λ (h : Head). open_body c (c ∷ s) h room)))
    go false o = refl
    go true (refusal number also) = refl
    go true (value h) = body c h

-- ---- tables that hold what flat lists hold

pub held_numbers : (table : List Block) → Holds (numbers_of table) table
held_numbers table = record { count = omega (arith, four_each table); each = λ k h. sym (held table k) }

-- the blocks of a flat list, so many from block k on
table_from : (t : List ℕ) (k n : ℕ) → List Block
table_from t k zero = []
table_from t k (suc n) = block_of_numbers t k ∷ table_from t (suc k) n

table_long : (t : List ℕ) (k n : ℕ) → length (table_from t k n) ≡ n
unfolding table_from
table_long t k zero = refl
table_long t k (suc n) = ap suc (table_long t (suc k) n)

table_at : (t : List ℕ) (k n j : ℕ) → j < n → block_at (table_from t k n) j ≡ block_of_numbers t (k + j)
unfolding table_from
table_at t k zero j h = absurd (not-suc-le-zero h)
table_at t k (suc n) zero h = ap (block_of_numbers t) (sym (add-zero k))
table_at t k (suc n) (suc j) h = table_at t (suc k) n j (le_of_suc-le-suc h) ∙ ap (block_of_numbers t) (suc-add k j ∙ sym (add-suc k j))

-- the table of any flat list
pub table_of : (t : List ℕ) → List Block
table_of t = table_from t 0 (blocks_in t)

pub held_table : (t : List ℕ) → Holds t (table_of t)
unfolding table_of
held_table t = record {
  count = table_long t 0 (blocks_in t);
  each = λ k h. table_at t 0 (blocks_in t) k (omega (arith, h, table_long t 0 (blocks_in t))) ∙ ap (block_of_numbers t) (zero-add k);
}

pub held_once : (t : List ℕ) (a b : List Block) → Holds t a → Holds t b → a ≡ b
held_once t a b x y =
    let long : length a ≡ length b = x.count ∙ sym y.count in
    ext_get_or no_block a b long (λ i h. x.each i h ∙ sym (y.each i (omega arith)))

-- ---- reading

both : (t : Bool) → t && false ≡ false
both true = refl
both false = refl

-- a Blockwise row whose block the table lacks is refused, whatever block it is given
lacks : (col : Column) (blocks : ℕ) (b : Block) (s : List ℕ) (r : ℕ) → col.codec ≡ Blockwise → blocks ≤ column_row col r / 512
    → row_in col blocks b s r ≡ (demand (ltb r col.window.rows) 12 [] >> refusal 13 [])
unfolding row_in fits row_fits column_fits
lacks col blocks b s r e h = rw (e, le-ltb (column_row col r / 512) blocks h, both (column_fits col s))

-- only Blockwise asks for a block, and only for one that the table has
pub answers_same : (t : List ℕ) (table : List Block) → Holds t table → (col : Column) (s : List ℕ) (r : ℕ) → row_by_numbers col t s r ≡ row_at col table s r
unfolding row_in fits row_fits place_in packed_of value_in
answers_same t table h col s r = go col.codec refl
  where
    go : (c : Codec) → col.codec ≡ c → row_by_numbers col t s r ≡ row_at col table s r
    go Bitpacked e = rw e
    go (Linear l w) e = rw e
    go Blockwise e =
        ⊎_elim
        (λ (inside : column_row col r / 512 < length table). rw (h.each (column_row col r / 512) inside, h.count))
        (λ (past : length table ≤ column_row col r / 512).
        lacks col (blocks_in t) (block_of_numbers t (column_row col r / 512)) s r e (omega (arith, h.count))
        ∙ sym (lacks col (length table) (block_at table (column_row col r / 512)) s r e past))
        (below_or (column_row col r / 512) (length table))

-- ---- what is stored

-- an entry among those stored at a list's front, and one behind them
front_at : {A : Type 0} (xs l : List A) (i : ℕ) (d : A) → length xs ≤ length l → i < length xs → get_or (sets l 0 xs) i d ≡ get_or xs i d
front_at xs l i d room h = rw (sets-eq xs l 0 (omega arith)) (get_or-append xs (drop (0 + length xs) l) d i h)

behind_at : {A : Type 0} (xs l : List A) (i j : ℕ) (d : A) → i + length xs ≤ j → get_or (sets l i xs) j d ≡ get_or l j d
behind_at [] l i j d h = refl
behind_at (x ∷ xs) l i j d h = behind_at xs (set l i x) (suc i) j d (omega arith) ∙ get_or-set_other l i j x d (λ (e : j ≡ i). omega arith)

-- two flat lists that agree on four numbers have one block there
four_same : (t u : List ℕ) (k : ℕ) → ((i : ℕ) → 4 * k ≤ i → i < 4 * k + 4 → get_or t i 0 ≡ get_or u i 0) → block_of_numbers t k ≡ block_of_numbers u k
four_same t u k same = λ i. record {
  line = record { slope = same (4 * k) (omega arith) (omega arith) i; intercept = same (4 * k + 1) (omega arith) (omega arith) i };
  bits = same (4 * k + 2) (omega arith) (omega arith) i;
  start = same (4 * k + 3) (omega arith) (omega arith) i;
}

pub held_stored : (t : List ℕ) (table : List Block) → Holds t table → (bs : List Block) → length bs ≤ length table → Holds (sets t 0 (numbers_of bs)) (sets table 0 bs)
held_stored t table h bs room = record {
  count = length-sets table 0 bs ∙ h.count ∙ ap (λ (n : ℕ). n / 4) (sym (length-sets t 0 (numbers_of bs)));
  each = λ k inside.
      ⊎_elim
      (λ (front : k < length bs).
      front_at bs table k no_block room front ∙ sym (held bs k)
      ∙ four_same (numbers_of bs) (sets t 0 (numbers_of bs)) k (λ i low high. sym (front_at (numbers_of bs) t i 0 (omega (arith, h.count, four_each bs)) (omega (arith, four_each bs)))))
      (λ (past : length bs ≤ k).
      behind_at bs table 0 k no_block (omega arith) ∙ h.each k (omega (arith, inside, length-sets table 0 bs))
      ∙ four_same t (sets t 0 (numbers_of bs)) k (λ i low high. sym (behind_at (numbers_of bs) t 0 i 0 (omega (arith, four_each bs)))))
      (below_or k (length bs));
}

-- ---- for the same bytes

-- beside opening by numbers into a flat list, what a call answered and left in its table: the same answer, the same blocks, and with them the same rows, of any column and any bytes
pub record LeavesSame (s t : List ℕ) (a : Result (Column × Option ℕ) Refusal) (after : List Block) : Type 0 where
  pub answer : answered_by a ≡ column_by (opened_numbers s (blocks_in t))
  pub table : Holds (stored (numbers_in (opened_numbers s (blocks_in t))) t) after
  pub rows : (col : Column) (bytes : List ℕ) (r : ℕ) (b : Result ℕ Refusal) → answered_by b ≡ row_at col after bytes r
      → answered_by b ≡ row_by_numbers col (stored (numbers_in (opened_numbers s (blocks_in t))) t) bytes r

column_same : (o : Outcome Loaded) → column_in o ≡ column_by (as_numbers o)
column_same (value l) = refl
column_same (refusal number also) = refl

-- any bytes, any flat list, and any table of records that holds it
pub records_hold : (s t : List ℕ) (table after : List Block) → Holds t table → (a : Result (Column × Option ℕ) Refusal) → OpenedAs (opened s (length table)) a table after → LeavesSame s t a after
records_hold s t table after h a e = record {
  answer = e.answer ∙ column_same (opened s (length table)) ∙ ap column_by (sym same);
  table = left;
  rows = λ col bytes r b f. f ∙ sym (answers_same (stored (numbers_in (opened_numbers s (blocks_in t))) t) after left col bytes r);
}
  where
    same : opened_numbers s (blocks_in t) ≡ as_numbers (opened s (length table))
    same = opening_same s (blocks_in t) ∙ ap (λ (n : ℕ). as_numbers (opened s n)) (sym h.count)

    by_opening : (o : Outcome Loaded) → opened s (length table) ≡ o → Holds (stored (numbers_in (as_numbers o)) t) (stored (table_in o) table)
    by_opening (value l) is = held_stored t table h l.table (opened_laid s (length table) l is).table
    by_opening (refusal number also) is = h

    left : Holds (stored (numbers_in (opened_numbers s (blocks_in t))) t) after
    left = rw (same, e.table) (by_opening (opened s (length table)) refl)

-- ---- where the flat list is a table's numbers and no more

pub held_exactly : (table : List Block) (t : List ℕ) → length t ≡ 4 * length table → ((k : ℕ) → k < length table → block_at table k ≡ block_of_numbers t k) → t ≡ numbers_of table
unfolding numbers_of
held_exactly [] [] long each = refl
held_exactly [] (x ∷ t) long each = absurd (omega arith)
held_exactly (b ∷ bs) [] long each = absurd (omega arith)
held_exactly (b ∷ bs) (x ∷ []) long each = absurd (omega arith)
held_exactly (b ∷ bs) (x ∷ y ∷ []) long each = absurd (omega arith)
held_exactly (b ∷ bs) (x ∷ y ∷ z ∷ []) long each = absurd (omega arith)
held_exactly (b ∷ bs) (x ∷ y ∷ z ∷ w ∷ t) long each =
    ap (λ (l : List ℕ). x ∷ y ∷ z ∷ w ∷ l) (held_exactly bs t (omega arith) (λ k h. each (suc k) (suc-le-suc h) ∙ block_shift x y z w t k))
    ∙ ap (λ (c : Block). c.line.slope ∷ c.line.intercept ∷ c.bits ∷ c.start ∷ numbers_of bs) (sym (each 0 (zero-lt-suc _)))

-- a lent list keeps its length
kept_long : {A : Type 0} (o : Outcome (List A)) (l : List A) → length (stored o l) ≡ length l
kept_long (value xs) l = length-sets l 0 xs
kept_long (refusal number also) l = refl

-- a lent list of just four numbers for each record of a lent table: the numbers left in it are those of the records left in the table
pub numbers-kept : (s t : List ℕ) (table after : List Block) → Holds t table → length t ≡ 4 * length table → (a : Result (Column × Option ℕ) Refusal) → OpenedAs (opened s (length table)) a table after
    → stored (numbers_in (opened_numbers s (blocks_in t))) t ≡ numbers_of after
numbers-kept s t table after h long a e =
    let left = records_hold s t table after h a e in
    held_exactly after (stored (numbers_in (opened_numbers s (blocks_in t))) t)
    (omega (arith, kept_long (numbers_in (opened_numbers s (blocks_in t))) t, ap length e.table, kept_long (table_in (opened s (length table))) table))
    left.table.each
