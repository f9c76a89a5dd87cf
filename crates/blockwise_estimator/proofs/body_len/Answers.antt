-- `body_len` meets its contract: a head of at most forty bytes and small sizes add up to no more than a usize holds.
-- Assumes nothing.
use native.Mathlib.Omega.{arith}
use Rattle.format.proofs.Spellings.{head_few}
use Rattle.blockwise_estimator.proofs.body_len.Goals as goal

pub overflow_add-result-2 : goal.overflow_add-result-2
overflow_add-result-2 c = omega (arith, c.requires.few_bytes.packs, c.requires.few_bytes.fields, head_few c.args.stats)

pub overflow_add-result-3 : goal.overflow_add-result-3
overflow_add-result-3 c = omega (arith, c.requires.few_bytes.packs, c.requires.few_bytes.fields, head_few c.args.stats)
