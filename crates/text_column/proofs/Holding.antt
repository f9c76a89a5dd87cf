-- The values of rows that a list holds.
--     values_none, values_front      no row; those that stand in the front of a list
--     holds_nothing, holds-chunk     no row; those that a chunk was read of
-- Assumes nothing.
use Prim.Native.Nat.{ℕ, ◌+◌, ◌-◌, ◌/◌, ◌≤◌, ◌<◌}
use mathlib.Core.Path.{◌≡◌, sym, ap, ◌∙◌, subst}
use mathlib.Core.List.{List, ◌++◌}
use native.Mathlib.Nat.{not-suc-le-zero}
use native.Mathlib.Omega.{arith}
use lib.ListN.{length, get_or, get_or-append}
use Rattle.format.specs.declared.Column.{Column}
use Rattle.format.specs.Listing.{opened_here}
use Rattle.format.specs.Outcome.{Outcome, Outcome.value}
use Rattle.format.specs.Reading.{column_row, block_at}
use Rattle.read_row.specs.Chunks.{chunk_size}
use Rattle.blockwise_linear.specs.declared.passing.Pass.{Pass}
use Rattle.text_column.specs.declared.held.Held.{Held}
use Rattle.text_column.specs.Holding.{Values, Holds, HoldsAt}
use Rattle.text_column.specs.Own.{table_of, own_row, block_of, pass_at, Shows, Owned}
use Rattle.text_column.proofs.Owns.{own_row_block, owned_at}

module _ (read : ℕ → Outcome ℕ) (r : ℕ) where
  pub values_none : (values : List ℕ) → length values ≡ 512 → Values read r 0 values
  values_none values long = record { long = long; few = omega arith; each = λ j below. absurd (not-suc-le-zero below) }

  pub values_front : (front rest : List ℕ) (n : ℕ) → length (front ++ rest) ≡ 512 → n ≡ length front → n ≤ 512 → ((j : ℕ) → j < length front → read (r + j) ≡ value (get_or front j 0))
      → Values read r n (front ++ rest)
  values_front front rest n long all few each =
      record { long = long; few = few; each = λ j below. let h : j < length front = omega arith in each j h ∙ ap value (sym (get_or-append front rest 0 j h)) }

module _ {s : List ℕ} {c : Column} {values : List ℕ} where
  pub holds_nothing : {p : Pass} (h : Held) → Owned s c p → h.pass ≡ p → h.end.0 ≡ 0 → h.count ≡ 0 → length values ≡ 512 → Holds s c h values
  holds_nothing h own same none zero room =
      record {
        own = subst (λ (p : Pass). Owned s c p) (sym same) own;
        block = λ r from below. absurd (omega arith);
        rows = subst (λ (n : ℕ). Values (own_row c s) h.first.0 n values) (sym zero) (values_none (own_row c s) h.first.0 values room);
      }

  -- the chunk that begins with row r, of so many rows
  pub holds-chunk : {r size : ℕ} (h : Held) → Shows s c → r < c.window.rows → size ≡ chunk_size (column_row c r) (c.window.rows - r)
      → h.pass ≡ pass_at s c (block_of c r) → h.first.0 ≡ r → h.end.0 ≡ r + size → Values (own_row c s) h.first.0 h.count values
      → HoldsAt s c r h values
  holds-chunk {r} {size} h e inside long is first end rows =
      record {
        holds = record {
          own = subst (λ (p : Pass). Owned s c p) (sym is) (owned_at e (block_of c r));
          block = λ q from below.
              let alike : column_row c r / 512 ≡ column_row c q / 512 = omega arith in
              ap (λ (p : Pass). p.block) is ∙ own_row_block e inside ∙ ap (block_at (table_of (opened_here s))) alike;
          rows = rows;
        };
        from = omega arith;
        at = λ _. omega (arith, long, inside);
      }
