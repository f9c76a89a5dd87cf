-- `put_block` meets its contract: the tests are the definition's.
-- Assumes nothing.
use mathlib.Core.Path.{refl, sym, ap}
use native.Mathlib.Nat.{add-zero}
use native.Mathlib.Omega.{arith}
use lib.ListN.{length}
use Rattle.text_explain.proofs.Wording.{before_low, before_high, before_block}
use Rattle.text_explain.proofs.words.put_block.Goals as goal

pub returns-then-which-lt10 : goal.returns-then-which-lt10
returns-then-which-lt10 c = rw (before_low _ _ c.if-which-lt10.true) (record { ends = sym (add-zero _); list = refl })

pub returns-then-which-gt12 : goal.returns-then-which-gt12
returns-then-which-gt12 c = rw (before_high _ _ c.if-which-gt12.true) (record { ends = sym (add-zero _); list = refl })

pub put_named-requires : goal.put_named-requires
put_named-requires c = omega (arith, ap length (before_block _ c.args.block c.if-which-lt10.false c.if-which-gt12.false))

pub returns : goal.returns
returns c = rw (before_block _ c.args.block c.if-which-lt10.false c.if-which-gt12.false) c.put_named.ensures
