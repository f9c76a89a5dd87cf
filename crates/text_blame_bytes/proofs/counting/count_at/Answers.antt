-- `count_at` meets its contract: the count as it was, or with one byte more.
-- Assumes nothing.
use mathlib.Core.Path.{sym, ◌∙◌}
use Rattle.text_blame_bytes.specs.Tallies.{tally_from}
use Rattle.text_blame_bytes.proofs.Passed.{stays_here}
use Rattle.text_blame_bytes.proofs.Tallies.{counted_same}
use Rattle.text_blame_bytes.proofs.counting.count_at.Goals as goal

pub returns-then-same_at : goal.returns-then-same_at
unfolding tally_from
returns-then-same_at c = record { tally_value = rw (sym c.same_at.ensures ∙ c.if-same_at.true); counted = counted_same c.args.counting.tally c.requires.0; stays = stays_here c.requires.1 }

pub owners_of-named-requires : goal.owners_of-named-requires
owners_of-named-requires c = c.requires.1

pub with_byte-requires : goal.with_byte-requires
with_byte-requires c = c.requires.0

pub returns : goal.returns
unfolding tally_from
returns c = record { tally_value = rw (sym c.same_at.ensures ∙ c.if-same_at.false, ← c.owners_of-named.ensures.owners_value) c.with_byte.ensures.value; counted = c.with_byte.ensures.counted; stays = c.owners_of-named.ensures.stays }
