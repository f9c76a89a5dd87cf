-- `put_owners` meets its contract: the lines of eight rows at most, or nothing.
-- Assumes nothing.
use mathlib.Core.Path.{refl, sym}
use native.Mathlib.Nat.{add-zero}
use native.Mathlib.Omega.{arith}
use Rattle.text_blame_bytes.proofs.Passed.{stays_here, stays_owned, stays_on}
use Rattle.text_blame_lines.proofs.rows.put_owners.Goals as goal

pub put_rows-end-requires : goal.put_rows-end-requires
put_rows-end-requires c =
    record {
      owned = (
        stays_owned (stays_on (stays_here c.requires.owned.0) _ c.reach-l.ensures),
        stays_owned (stays_on (stays_here c.requires.owned.1) _ c.reach-r.ensures),
      );
      first_le_last = rw c.in-Some.is at c.requires.few;
      at_in_bounds = omega (arith, c.requires.at_in_bounds);
    }

pub returns-in-Some : goal.returns-in-Some
returns-in-Some c = record { wrote = rw c.in-Some.is (rw (c.reach-l.ensures, c.reach-r.ensures) at c.put_rows-end.ensures.wrote); end_bound = c.put_rows-end.ensures.upper_bound; stays = (stays_on (stays_here c.requires.owned.0) _ c.reach-l.ensures, stays_on (stays_here c.requires.owned.1) _ c.reach-r.ensures) }

pub returns-in-None : goal.returns-in-None
returns-in-None c = record { wrote = rw c.in-None.is (record { ends = sym (add-zero _); list = refl }); end_bound = omega arith; stays = (stays_here c.requires.owned.0, stays_here c.requires.owned.1) }
