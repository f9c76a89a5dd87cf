-- What each codec owes to demand 2, stated once over the codec; and that it is enough.
--     Restores, RoundTrips               what a codec writes opens, and each row's packed number makes its value
--     begins                             the code byte and the head that a list is written with
--     window_back, gives_back            so a window, and the whole column, gives back every row, through any table with room, and every lookup
-- Assumes nothing.
use Rattle.std.specs.Prelude.{None}
use mathlib.Core.Path.{◌≡◌, refl, sym, ap, ◌∙◌, subst}
use mathlib.Core.List.{List, ◌∷◌, ◌++◌}
use Prim.Native.Nat.{ℕ, ◌+◌, ◌/◌, ◌^◌, ◌≤◌, ◌<◌}
use native.Mathlib.Omega.{arith}
use lib.ListN.{length}
use Rattle.format.specs.declared.Block.{Block}
use Rattle.format.specs.declared.Window.{Window}
use Rattle.format.specs.Outcome.{Outcome.value}
use Rattle.format.specs.Word.{AllBelow}
use Rattle.format.specs.Bodies.{column_by, block_count}
use Rattle.format.specs.Opening.{Loaded, opened}
use Rattle.format.specs.Sheets.{strict}
use Rattle.format.specs.Reading.{packed_of, value_in, block_at, asked_as}
use Rattle.format.specs.Windows.{whole, in_window}
use Rattle.format.specs.Lookup.{looked_up, within}
use Rattle.format.specs.Demands.{Applies, GivesBack, LiesIn, shown, answered, reads_as}
use Rattle.format.proofs.Heads.{head_bytes, written_head, read_head_lem}
use Rattle.format.proofs.Openings.{Begun}
use Rattle.format.proofs.Laid.{opened_laid, laid_in, opened-whole}
use Rattle.format.proofs.Rows.{answer_is}
use Rattle.format.proofs.Windows.{value_window, shown_long, shown_at, shown_all}
use Rattle.format.proofs.Lookups.{looked_agree}

-- what a codec writes opens wherever the table has room, its numbers are spelled as short as can be, it has no offending byte, and each row's packed number makes its value
pub record Restores (codec : ℕ) (vs : List ℕ) : Type 0 where
  pub loaded : Loaded
  pub opens : (room : ℕ) → block_count (length vs) ≤ room → opened (column_by codec vs) room ≡ value loaded
  pub count : loaded.column.rows ≡ length vs
  pub shortest : loaded.longer ≡ None
  pub passes : strict (column_by codec vs) loaded.column None ≡ value tt
  pub values : (r : ℕ) → r < length vs
      → value_in loaded.column.codec loaded.column (block_at loaded.table (r / 512)) r (packed_of loaded.column (block_at loaded.table (r / 512)) (column_by codec vs) r) ≡ reads_as vs r

abbrev pub RoundTrips : ℕ → Type 0
RoundTrips codec = (vs : List ℕ) → AllBelow (2 ^ 64) vs → length vs < 2 ^ 32 → Applies codec vs → Restores codec vs

module _ {codec : ℕ} {vs : List ℕ} (back : Restores codec vs) (table : List Block) (enough : block_count (length vs) ≤ length table) where
  abbrev bytes : List ℕ
  bytes = column_by codec vs

  abbrev loaded : Loaded
  loaded = back.loaded

  opens : opened bytes (length table) ≡ value loaded
  opens = back.opens (length table) (omega arith)

  -- a row of a window has the list's value at the column's row
  seen_rows : (w : Window) → LiesIn w loaded → (r : ℕ) → r < w.rows → answered (in_window loaded w) table bytes r ≡ reads_as vs (w.first + r)
  unfolding packed_of
  seen_rows w inside r h =
      let q = w.first + r in
      answer_is (laid_in (opened_laid bytes (length table) loaded opens) w inside) bytes (omega arith) r h table (omega arith)
      ∙ ap (asked_as r)
      (value_window loaded.column.codec loaded.column w (block_at loaded.table (q / 512)) q (packed_of loaded.column (block_at loaded.table (q / 512)) bytes q)
      ∙ back.values q (omega (arith, back.count)))

  -- so a window gives back its part of the list
  pub window_back : (w : Window) → LiesIn w loaded → GivesBack (shown w vs) bytes table (in_window loaded w)
  window_back w inside =
      let fits : w.first + w.rows ≤ length vs = omega (arith, back.count) in
      let long = shown_long w vs fits in
      let read = answered (in_window loaded w) table bytes in
      let rows : (r : ℕ) → r < length (shown w vs) → read r ≡ reads_as (shown w vs) r =
      λ r h. seen_rows w inside r (omega (arith, long)) ∙ ap value (sym (shown_at w vs fits r (omega (arith, long)))) in
      record {
        count = sym long;
        rows = rows;
        found = λ low high first end room.
            ap (λ (n : ℕ). looked_up read n (within low high) first end room) (sym long)
            ∙ looked_agree read (reads_as (shown w vs)) (length (shown w vs)) (within low high) first end room (λ x p q. rows x q);
      }

  -- the window of the whole column gives back the list, every row and every lookup, through any lent table with room for its blocks
  pub gives_back : (opened bytes (length table) ≡ value loaded) × GivesBack vs bytes table loaded
  gives_back =
      let all : shown (whole loaded) vs ≡ vs = shown_all (whole loaded) vs refl back.count in (
        opens,
        subst (λ (l : Loaded). GivesBack vs bytes table l) (opened-whole bytes (length table) loaded opens)
            (subst (λ (l : List ℕ). GivesBack l bytes table (in_window loaded (whole loaded))) all (window_back (whole loaded) (omega arith))),
      )

-- ---- what all columns begin with

-- the code byte and the head that a list is written with are read back
pub begins : (code : ℕ) (vs more : List ℕ) → code ≤ 2 → AllBelow (2 ^ 64) vs → length vs < 2 ^ 32 → Begun (code ∷ (head_bytes vs ++ more)) code (written_head vs)
begins code vs more known each few = record { some = omega arith; byte = refl; known = known; head = read_head_lem code vs more each few }
