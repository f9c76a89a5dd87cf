-- `stats::head_write` meets its contract: four fields, each written behind the one before.
-- Assumes nothing.
use Rattle.std.proofs.Common.{◌≡◌, ℕ, List, length, ap, arith}
use Rattle.format.specs.declared.ColumnStats.{ColumnStats}
use Rattle.format.specs.Outcome.{Wrote}
use Rattle.format.specs.Varint.{spell}
use Rattle.format.specs.Stats.{count_of, spell_head}
use Rattle.format.proofs.Stores.{wrote_then}
use Rattle.format.proofs.Spellings.{head_length}
use Rattle.stats.proofs.head_write.Goals as goal

-- the four fields, one behind the other
wrote_head : (s : ColumnStats) (count : ℕ) → count ≡ count_of s → {o l m n p : List ℕ} {at i j k e : ℕ} → Wrote o at (spell s.minimum) l i → Wrote l i (spell s.gcd) m j
    → Wrote m j (spell count) n k → Wrote n k (spell s.rows) p e → Wrote o at (spell_head s) p e
unfolding spell_head
wrote_head s count is a b c d = rw (← is) (wrote_then a (wrote_then b (wrote_then c d)))

pub write-next-requires : goal.write-next-requires
write-next-requires c = omega (arith, head_length c.args.stats)

pub write-next-requires-2 : goal.write-next-requires-2
write-next-requires-2 c = omega (arith, head_length c.args.stats)

pub write-next-requires-3 : goal.write-next-requires-3
write-next-requires-3 c = omega (arith, head_length c.args.stats, ap (λ (n : ℕ). length (spell n)) c.count_of-count.ensures)

pub write-requires : goal.write-requires
write-requires c = omega (arith, head_length c.args.stats, ap (λ (n : ℕ). length (spell n)) c.count_of-count.ensures)

pub returns : goal.returns
returns c = wrote_head _ _ c.count_of-count.ensures c.write-next.ensures c.write-next-2.ensures c.write-next-3.ensures c.write.ensures
