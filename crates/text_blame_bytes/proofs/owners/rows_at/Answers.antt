-- `rows_at` meets its contract. Before each turn the search comes to what it shall, with the table that opening finds; the pass is over the column's blocks, so a turn has the table's block
-- at hand. The measure is the number of blocks left.
-- Assumes nothing.
use mathlib.Core.Path.{◌≡◌, sym, ap, ◌∙◌}
use native.Mathlib.Omega.{arith}
use Rattle.format.specs.declared.Column.{Column}
use Rattle.format.specs.Listing.{opened_here}
use Rattle.byte_owner.proofs.Searches.{search_ends}
use Rattle.text_column.specs.declared.own.Own.{Own}
use Rattle.text_column.specs.Own.{table_of, own_at}
use Rattle.text_column.proofs.Owns.{own_block}
use Rattle.text_blame_bytes.proofs.Passed.{stays_here, stays_owned, stays_on}
use Rattle.text_blame_bytes.proofs.owners.rows_at.Goals as goal

pub go_on-search-requires : goal.go_on-search-requires
go_on-search-requires c = (c.requires, c.begin.ensures.0)

pub loop-search-init : goal.loop-search-init
loop-search-init c = (stays_here c.requires, c.go_on-search.ensures.searching, c.go_on-search.ensures.result_value ∙ c.begin.ensures.1 (table_of (opened_here c.args.bytes.now)))

pub reach_block-at-requires : goal.reach_block-at-requires
reach_block-at-requires c = stays_owned c.loop-search.invariant.0

pub step-search-requires : goal.step-search-requires
step-search-requires c = (c.loop-search.invariant.1, c.loop-search-test.true)

pub loop-search-smaller : goal.loop-search-smaller
loop-search-smaller c = c.step-search.ensures.left_lt_left

pub loop-search-preserved : goal.loop-search-preserved
loop-search-preserved c =
    let k = c.loop-search.search.next in
    let stays = c.loop-search.invariant.0 in
    let table = table_of (opened_here c.args.bytes.now) in
    let here : c.reach_block-at.result ≡ own_at c.args.bytes.now c.args.own.column k =
    c.reach_block-at.ensures ∙ ap (λ (col : Column). own_at c.args.bytes.now col k) stays.column in
    let block = ap (λ (x : Own). x.pass.block) here ∙ own_block stays.owned.shows k (omega (arith, c.loop-search.invariant.1.inside, c.loop-search-test.true)) in
    (stays_on stays k c.reach_block-at.ensures, c.step-search.ensures.searching.0, c.step-search.ensures.searching.1 table block ∙ c.loop-search.invariant.2)

pub returns : goal.returns
returns c =
    let none : c.loop-search.search.left ≡ 0 = omega (arith, c.loop-search-test.false) in
    record { rows_value = sym (search_ends (table_of (opened_here c.args.bytes.now)) c.args.own.column.rows c.loop-search.search none) ∙ c.loop-search.invariant.2; stays = c.loop-search.invariant.0 }
