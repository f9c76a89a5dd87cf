-- Demand 3: rows' bits lie inside the area and apart, and a row's answer depends on its own bits and on all of them.
--     rows_inside, rows_apart, rows_tell, demand3
--     rows_told                                          the same of two openings that are one, wherever else the bytes differ
-- Assumes nothing.
use Prim.Native.Nat.{ℕ, ◌+◌, ◌/◌, ◌≤◌, ◌<◌}
use mathlib.Core.Path.{◌≡◌, refl, sym, ap, ◌∙◌, subst}
use mathlib.Core.Logic.{⊎_elim}
use mathlib.Core.List.{List}
use native.Mathlib.Omega.{arith}
use lib.ListN.{length}
use Rattle.format.specs.declared.Block.{Block}
use Rattle.format.specs.declared.Window.{Window}
use Rattle.format.specs.Outcome.{Outcome.value}
use Rattle.format.specs.Opening.{Loaded, opened}
use Rattle.format.specs.Reading.{packed_of, value_in, block_at, asked_as}
use Rattle.format.specs.Windows.{in_window}
use Rattle.format.specs.Demands.{Owns, Inside, Apart, SameBits, answered, LiesIn, Differ, RowsTell, Tell, Demand3}
use Rattle.format.proofs.Lists.{below_or}
use Rattle.format.proofs.Laid.{opened_laid, laid_in}
use Rattle.format.proofs.Elsewhere.{opened_same, same_alike, alike_fields}
use Rattle.format.proofs.Rows.{value_of, answer_is, packed_same, bits_same, packed_small, value_tells}

-- ---- where rows' bits lie

pub rows_inside : Inside
rows_inside s room o e r k h own =
    let laid = opened_laid s room o e in
    (omega (arith, own.0), omega (arith, own.1, laid.rows.inside r h), laid.area)

-- an earlier row's bits come before a later row's
earlier : (s : List ℕ) (room : ℕ) (o : Loaded) → opened s room ≡ value o → (q r k : ℕ) → r < o.column.rows → Owns o q k → Owns o r k → q < r → ⊥
earlier s room o e q r k h mine others before =
    let laid = opened_laid s room o e in
    omega (arith, mine.1, others.0, laid.rows.order q r before h)

pub rows_apart : Apart
rows_apart s room o e q r k hq hr mine others =
    ⊎_elim
    (λ (before : q < r). absurd (earlier s room o e q r k hr mine others before))
    (λ (after : r ≤ q).
    ⊎_elim
    (λ (behind : r < q). absurd (earlier s room o e r q k hq others mine behind))
    (λ (same : q ≤ r). omega arith)
    (below_or r q))
    (below_or q r)

-- ---- what a row's answer depends on

-- two byte strings whose openings are one; a row of a window
module _ (s t : List ℕ) (table other : List Block) (o : Loaded) (so : opened s (length table) ≡ value o) (to : opened t (length other) ≡ value o)
    (len : length s ≡ length t) (w : Window) (inside : LiesIn w o) (r : ℕ) (h : r < w.rows) where
  -- the column, seen through the window
  abbrev seen : Loaded
  seen = in_window o w

  from_s : answered seen table s r ≡ asked_as r (value_of seen s (w.first + r))
  from_s = answer_is (laid_in (opened_laid s (length table) o so) w inside) s (omega arith) r h table (omega arith)

  from_t : answered seen other t r ≡ asked_as r (value_of seen t (w.first + r))
  from_t = answer_is (laid_in (opened_laid t (length other) o to) w inside) t (omega arith) r h other (omega arith)

  bits_agree : SameBits o s t (w.first + r) → answered seen table s r ≡ answered seen other t r
  bits_agree same =
      let q = w.first + r in
      from_s ∙ ap (λ (n : ℕ). asked_as r (value_in o.column.codec seen.column (block_at o.table (q / 512)) q n)) (packed_same seen s t len q same) ∙ sym from_t

  bits_differ : (SameBits o s t (w.first + r) → ⊥) → Differ r (answered seen table s r) (answered seen other t r)
  bits_differ differs =
      let q = w.first + r in
      let laid = laid_in (opened_laid s (length table) o so) w inside in
      let lawful = laid.rows.lawful q (omega arith) in
      rw (from_s, from_t)
      (value_tells o.column.codec seen.column (block_at o.table (q / 512)) r q (packed_of seen.column (block_at o.table (q / 512)) s q) (packed_of seen.column (block_at o.table (q / 512)) t q)
      laid.head.step (packed_small seen s q lawful) (packed_small seen t q lawful)
      (λ e. differs (bits_same seen s t len q e)))

-- two openings that are one tell rows apart by their bits
pub rows_told : (s t : List ℕ) (table other : List Block) (o p : Loaded) → opened s (length table) ≡ value o → opened t (length other) ≡ value p
    → length s ≡ length t → o ≡ p → RowsTell s t table other o p
rows_told s t table other o p so tp long same =
    let to : opened t (length other) ≡ value o = tp ∙ ap (λ (q : Loaded). value q) (sym same) in
    subst (λ (q : Loaded). RowsTell s t table other o q) same (record {
      same = refl;
      agree = λ (w : Window) (inside : LiesIn w o) (r : ℕ) (h : r < w.rows). bits_agree s t table other o so to long w inside r h;
      differ = λ (w : Window) (inside : LiesIn w o) (r : ℕ) (h : r < w.rows). bits_differ s t table other o so to long w inside r h;
    })

pub rows_tell : Tell
rows_tell s t table other o p so tp a =
    rows_told s t table other o p so tp a.long
    (opened_same s t (length table) (length other) o p so tp (same_alike (alike_fields s t (length table) o so a)))

pub demand3 : Demand3
demand3 = (rows_inside, rows_apart, rows_tell)
