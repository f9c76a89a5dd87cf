-- A search that goes on from the block at hand: the blocks before that have no rows at its byte.
--     stays_here, stays_owned, stays_on, stays_then
--                                            the column stays, and a pass over its blocks
--     passed_over                            a search goes on from the block at hand, if that begins at the byte or before it
-- Assumes nothing.
use Rattle.std.specs.Option.{option_or}
use Rattle.format.specs.Refusals.{answered_by}
use Rattle.std.specs.Prelude.{Option, None}
use Prim.Native.Nat.{ℕ, zero, suc, ◌+◌, ◌-◌, ◌*◌, ◌/◌, ◌%◌, ◌≤◌, ◌<◌, min}
use mathlib.Core.Path.{◌≡◌, refl, sym, ap, ap₂, ◌∙◌, subst}
use mathlib.Core.List.{List}
use native.Mathlib.Omega.{arith}
use Rattle.format.specs.declared.Block.{Block}
use Rattle.format.specs.declared.Codec.{Codec}
use Rattle.format.specs.declared.Codec.TheVariants.{Bitpacked, Linear, Blockwise}
use Rattle.format.specs.declared.Column.{Column}
use Rattle.format.specs.Bodies.{block_count}
use Rattle.format.specs.Listing.{opened_here}
use Rattle.format.specs.Reading.{place_in, block_at}
use Rattle.format.specs.Word.{bytes_for}
use Rattle.format.specs.Parts.{run_owners, block_run, block_owners}
use Rattle.format.proofs.Laid.{RowsLaid}
use Rattle.format.proofs.Owning.{run_none}
use Rattle.blockwise_linear.specs.declared.passing.Pass.{Pass}
use Rattle.blockwise_linear.specs.Passing.{passed}
use Rattle.byte_owner.specs.declared.Search.{Search}
use Rattle.byte_owner.specs.Search.{or_left, searched, Searching}
use Rattle.text_column.specs.declared.own.Own.{Own}
use Rattle.text_column.specs.Own.{table_of, block_rows, own_at, Shows, Owned}
use Rattle.text_column.proofs.Owns.{own_block, owned_at}
use Rattle.text_column.proofs.Rows.{by_shown, shows_laid}
use Rattle.text_blame_bytes.specs.Owners.{Stays}

-- ---- a column that stays

module _ {s : List ℕ} {own : Own} where
  pub stays_here : Owned s own.column own.pass → Stays s own own
  stays_here f = record { column = refl; owned = f }

  module _ {r : Own} (f : Stays s own r) where
    pub stays_owned : Owned s r.column r.pass
    stays_owned = subst (λ (c : Column). Owned s c r.pass) (sym f.column) f.owned

    -- a pass that went on to a block
    pub stays_on : (k : ℕ) {q : Own} → q ≡ own_at s r.column k → Stays s own q
    stays_on k {q} e =
        let is : q ≡ own_at s own.column k = e ∙ ap (λ (c : Column). own_at s c k) f.column in
        record {
          column = ap (λ (x : Own). x.column) is;
          owned = subst (λ (x : Own). Owned s own.column x.pass) (sym is) (owned_at f.owned.shows k);
        }

    pub stays_then : {q : Own} → Stays s r q → Stays s own q
    stays_then {q} g = record { column = g.column ∙ f.column; owned = subst (λ (c : Column). Owned s c q.pass) f.column g.owned }

-- ---- blocks that are passed over

-- blocks that have no rows there
none_here : (t : List Block) (rows j d n k : ℕ) → ((e : ℕ) → e < k + d → run_owners (block_run t rows e) j ≡ None) → block_owners t rows k (d + n) j ≡ block_owners t rows (k + d) n j
unfolding block_owners
none_here t rows j zero n k none =
    let all : zero + n ≡ n = omega arith in
    let here : k ≡ k + zero = omega arith in
    ap₂ (λ (m i : ℕ). block_owners t rows i m j) all here
none_here t rows j (suc d) n k none =
    let more : suc d + n ≡ suc (d + n) = omega arith in
    let on : suc k + d ≡ k + suc d = omega arith in
    ap (λ (m : ℕ). block_owners t rows k m j) more
    ∙ ap (λ (o : Option (ℕ × ℕ)). option_or o (block_owners t rows (suc k) (d + n) j)) (none k (omega arith))
    ∙ none_here t rows j d n (suc k) (λ (e : ℕ) (h : e < suc k + d). none e (omega arith))
    ∙ ap (λ (m : ℕ). block_owners t rows m n j) on

-- a block's bytes end where a later block's begin, or before
apart : {count rows size : ℕ} {t : List Block} → RowsLaid Blockwise count rows size t → (b k : ℕ) → b < k → 512 * k < rows
    → 8 * (block_at t b).start + 512 * (block_at t b).bits ≤ 8 * (block_at t k).start
unfolding place_in
apart {count} {rows} {size} {t} laid b k h inside =
    let q = 512 * b + 511 in
    let r = 512 * k in
    let q_block : q / 512 ≡ b = omega arith in
    let q_row : q % 512 ≡ 511 = omega arith in
    let r_block : r / 512 ≡ k = omega arith in
    let r_row : r % 512 ≡ 0 = omega arith in
    let order : 8 * (block_at t (q / 512)).start + (q % 512 + 1) * (block_at t (q / 512)).bits ≤ 8 * (block_at t (r / 512)).start + r % 512 * (block_at t (r / 512)).bits =
    laid.order q r (omega arith) (omega arith) in
    omega (arith, rw (q_block, q_row, r_block, r_row) at order)

-- so it has no rows at a byte from there on
module _ {s : List ℕ} {c : Column} (e : Shows s c) (is : c.codec ≡ Blockwise) where
  abbrev table : List Block
  table = table_of (opened_here s)

  laid : RowsLaid Blockwise c.count c.rows c.size table
  laid =
      subst (λ (k : Codec). RowsLaid k c.count c.rows c.size table) is
      (by_shown e (λ (c : Column). RowsLaid c.codec c.count c.rows c.size table) (rw e.opened (shows_laid e).rows))

  none_before : (b k j : ℕ) → b < k → 512 * k < c.rows → (block_at table k).start ≤ j → run_owners (block_run table c.rows b) j ≡ None
  none_before b k j h inside low =
      let full : 512 ≡ min (c.rows - 512 * b) 512 = omega arith in
      run_none (block_run table c.rows b) j
      (subst (λ (n : ℕ). (block_at table b).start + bytes_for ((block_at table b).bits * n) ≤ j) full (omega (arith, apart laid b k h inside)))

-- ---- the block at hand

-- only a Blockwise column has blocks
with_blocks : (c : Column) (n : ℕ) → n ≤ block_count (block_rows c) → 0 < n → (c.codec ≡ Blockwise) × (512 * (n - 1) < c.rows)
with_blocks c n h some = go c.codec refl
  where
    go : (k : Codec) → c.codec ≡ k → (c.codec ≡ Blockwise) × (512 * (n - 1) < c.rows)
    go Bitpacked e = absurd (omega (arith, rw e at h))
    go (Linear l w) e = absurd (omega (arith, rw e at h))
    go Blockwise e = (e, omega (arith, rw e at h))

module _ {s : List ℕ} {c : Column} {p : Pass} (f : Owned s c p) {w : Search} (g : Searching c.rows w)
    (some : w.next < p.count) (few : p.count - 1 - w.next < w.left) (low : p.block.start ≤ w.byte) where
  here : (c.codec ≡ Blockwise) × (512 * (p.count - 1) < c.rows)
  here = with_blocks c p.count f.pass.inside (omega arith)

  at_hand : p.block ≡ block_at (table_of (opened_here s)) (p.count - 1)
  at_hand =
      let same : p.count ≡ min (p.count - 1 + 1) (block_count (block_rows c)) = omega (arith, f.pass.inside) in
      ap (λ (q : Pass). q.block) f.pass.stands ∙ ap (λ (n : ℕ). (passed s (block_rows c) n).block) same ∙ own_block f.shows (p.count - 1) here.1

  pub passed_over : let u : Search = record { next = p.count - 1; left = w.left - (p.count - 1 - w.next); byte = w.byte; answer = w.answer } in
      Searching c.rows u × (searched (table_of (opened_here s)) c.rows u ≡ searched (table_of (opened_here s)) c.rows w)
  passed_over =
      let d = p.count - 1 - w.next in
      let t = table_of (opened_here s) in
      let none : (e : ℕ) → e < w.next + d → run_owners (block_run t c.rows e) w.byte ≡ None =
      λ (e : ℕ) (h : e < w.next + d). none_before f.shows here.0 e (p.count - 1) w.byte (omega arith) here.1 (subst (λ (b : Block). b.start ≤ w.byte) at_hand low) in
      let all : w.left ≡ d + (w.left - d) = omega arith in
      let on : w.next + d ≡ p.count - 1 = omega arith in
      let same : block_owners t c.rows w.next w.left w.byte ≡ block_owners t c.rows (p.count - 1) (w.left - d) w.byte =
      ap (λ (n : ℕ). block_owners t c.rows w.next n w.byte) all ∙ none_here t c.rows w.byte d (w.left - d) w.next none
      ∙ ap (λ (k : ℕ). block_owners t c.rows k (w.left - d) w.byte) on in
      (record { inside = omega (arith, g.inside); none = λ h. g.none (omega arith) }, ap (or_left (answered_by w.answer)) (sym same))
