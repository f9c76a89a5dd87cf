-- `monotonic_mapping::word_of` meets its contract, arm by arm.
-- Assumes nothing.
use mathlib.Core.Path.{refl, ◌∙◌}
use Rattle.monotonic_mapping.specs.Words.{word_of}
use Rattle.monotonic_mapping.proofs.Mapped.{flag_word, word_arm}
use Rattle.monotonic_mapping.proofs.word_of.Goals as goal

pub returns-in-U64 : goal.returns-in-U64
unfolding word_of
returns-in-U64 c = word_arm c.args.stored c.in-U64.is refl

pub returns-in-I64 : goal.returns-in-I64
unfolding word_of
returns-in-I64 c = word_arm c.args.stored c.in-I64.is c.add.ensures

pub returns-in-Date : goal.returns-in-Date
unfolding word_of
returns-in-Date c = word_arm c.args.stored c.in-Date.is c.add-in-Date.ensures

pub returns-in-Bool : goal.returns-in-Bool
unfolding word_of
returns-in-Bool c = word_arm c.args.stored c.in-Bool.is (c.lesser.ensures ∙ flag_word _)

pub returns-in-F64 : goal.returns-in-F64
unfolding word_of
returns-in-F64 c = word_arm c.args.stored c.in-F64.is c.float_of.ensures
