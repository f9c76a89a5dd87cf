-- `put_offset` meets its contract: nothing for bytes that are the same, else the byte's line and those of its rows, which are eight at most.
-- Assumes nothing.
use mathlib.Core.Path.{refl, sym, ◌∙◌, subst}
use native.Mathlib.Nat.{add-zero}
use native.Mathlib.Omega.{arith}
use Rattle.format.proofs.Stores.{wrote_then}
use Rattle.text_blame_bytes.specs.Owners.{Few}
use Rattle.text_blame_bytes.proofs.FewRows.{found_few}
use Rattle.text_blame_bytes.proofs.Passed.{stays_here, stays_owned, stays_then}
use Rattle.text_blame_lines.proofs.Offsets.{text_same, text_differs}
use Rattle.text_blame_lines.proofs.rows.put_offset.Goals as goal

pub returns-then-same_at : goal.returns-then-same_at
returns-then-same_at c =
    record {
      wrote = rw (text_same c.args.left.column c.args.lbytes.now c.args.right.column c.args.rbytes.now c.args.offset (sym c.same_at.ensures ∙ c.if-same_at.true))
          (record { ends = sym (add-zero _); list = refl });
      end_bound = omega arith;
      stays = (stays_here c.requires.owned.0, stays_here c.requires.owned.1);
    }

pub put_owners-requires : goal.put_owners-requires
put_owners-requires c = record { owned = (stays_owned c.owners_of-named.ensures.stays, c.requires.owned.1); few = subst Few (sym c.owners_of-named.ensures.owners_value) (found_few c.args.left.column c.args.lbytes.now c.args.offset); at_in_bounds = omega (arith, c.put_byte_line-line.ensures.upper_bound, c.put_byte_line-line.auto.out, c.requires.blame_max_in_bounds) }

pub returns : goal.returns
returns c =
    record {
      wrote = rw (text_differs c.args.left.column c.args.lbytes.now c.args.right.column c.args.rbytes.now c.args.offset (sym c.same_at.ensures ∙ c.if-same_at.false))
          (wrote_then (rw c.part_at-part.ensures at c.put_byte_line-line.ensures.wrote) (rw (c.owners_of-named.ensures.owners_value, c.owners_of-named.ensures.stays.column) at c.put_owners.ensures.wrote));
      end_bound = omega (arith, c.put_byte_line-line.ensures.upper_bound, c.put_owners.ensures.end_bound);
      stays = (stays_then c.owners_of-named.ensures.stays c.put_owners.ensures.stays.0, c.put_owners.ensures.stays.1);
    }
