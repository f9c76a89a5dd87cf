-- A replay over an opened column, by a pass over its own blocks.
--     Running, running_starts     the invariant of its loop: it starts with the pass before the first block
--     running_again               a turn with the block that the pass stands at keeps it
-- Assumes nothing.
use Prim.Native.Nat.{ℕ, ◌/◌, ◌%◌, ◌^◌, ◌<◌}
use mathlib.Core.Path.{◌≡◌, sym, ap, ◌∙◌, subst}
use mathlib.Core.Bool.{true}
use mathlib.Core.List.{List}
use native.Mathlib.Omega.{arith}
use lib.ListN.{length}
use Rattle.format.specs.declared.Block.{Block}
use Rattle.format.specs.declared.Column.{Column}
use Rattle.format.specs.Bodies.{block_count}
use Rattle.format.specs.Listing.{opened_here}
use Rattle.format.specs.Reading.{column_row, block_at, row_at}
use Rattle.replay_walk.specs.declared.walking.Walk.{Walk}
use Rattle.replay_walk.specs.Walking.{Replaying}
use Rattle.replay_walk.proofs.Walks.{is_on_hand}
use Rattle.text_column.specs.declared.own.Own.{Own}
use Rattle.text_column.specs.Own.{table_of, own_row, block_rows, own_first, block_of, own_at, Opens, Shows, Owned}
use Rattle.text_column.proofs.Owns.{own_blocks, owned_first, owned_at, own_moved, own_row_block}
use Rattle.text_column.proofs.Rows.{opens_shows}

-- the column with a pass over its blocks, and a replay under way by the opening's own blocks
pub record Running (s : List ℕ) (c : Column) (recording : List ℕ) (own : Own) (w : Walk) : Type 0 where
  pub column : own.column ≡ c
  pub owned : Owned s own.column own.pass
  pub replay : Replaying (own_row c s) c.window.rows recording w

pub running_starts : {s : List ℕ} {c : Column} {recording : List ℕ} {own : Own} {w : Walk} → Opens s c → own ≡ own_first s c → Replaying (own_row c s) c.window.rows recording w → Running s c recording own w
running_starts {s} opens is begun =
    record { column = ap (λ (o : Own). o.column) is; owned = subst (λ (o : Own). Owned s o.column o.pass) (sym is) (owned_first (opens_shows opens)); replay = begun }

module _ {s : List ℕ} {c : Column} {recording : List ℕ} {own : Own} {w : Walk} (f : Running s c recording own w) where
  -- the column is seen through a window that lies in it
  shows : Shows s c
  shows = subst (λ (k : Column). Shows s k) f.column f.owned.shows

  module _ (on : w.going ≡ true) {next : Own} (is : next ≡ own_at s own.column (block_of own.column w.at)) where
    there : next ≡ own_at s c (block_of c w.at)
    there = is ∙ ap (λ (k : Column). own_at s k (block_of k w.at)) f.column

    -- the chunk at hand is one of the window's rows, and its block the table's
    inside : w.at < c.window.rows
    inside = let g = (is_on_hand _ _ _ _ f.replay on).going in
        omega (arith, g.to, g.inside)

    at_hand : next.pass.block ≡ block_at (table_of (opened_here s)) (column_row c w.at % 2 ^ 32 / 512)
    at_hand =
        ap (λ (o : Own). o.pass.block) there ∙ own_row_block shows inside
        ∙ ap (λ (q : ℕ). block_at (table_of (opened_here s)) (q / 512)) (sym (own_moved shows inside))

    pub running_again : {blocks : ℕ} {later : Walk} → blocks ≡ block_count (block_rows c)
        → ((table : List Block) → blocks ≡ length table → next.pass.block ≡ block_at table (column_row c w.at % 2 ^ 32 / 512)
        → Replaying (row_at c table s) c.window.rows recording w → Replaying (row_at c table s) c.window.rows recording later)
        → Running s c recording next later
    running_again count step =
        record {
          column = ap (λ (o : Own). o.column) there;
          owned = subst (λ (o : Own). Owned s o.column o.pass) (sym there) (owned_at shows (block_of c w.at));
          replay = step (table_of (opened_here s)) (count ∙ own_blocks shows) at_hand f.replay;
        }
