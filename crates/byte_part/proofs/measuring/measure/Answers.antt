-- `byte_part::measuring::measure` meets its contract: each shape, as the definition has it.
-- Assumes nothing.
use Rattle.std.proofs.Common.{refl, ap, ◌∙◌, ℕ, ◌-◌}
use Rattle.format.specs.Parts.{extent, spelled}
use Rattle.byte_part.proofs.measuring.measure.Goals as goal

pub returns-in-Varint : goal.returns-in-Varint
unfolding extent spelled
returns-in-Varint c = rw c.in-Varint.is (record { bytes = c.spelling.ensures.bytes; value = c.spelling.ensures.value })

pub returns-in-Byte : goal.returns-in-Byte
unfolding extent spelled
returns-in-Byte c = rw c.in-Byte.is (record { bytes = refl; value = c.byte_at.ensures })

pub returns-in-Four : goal.returns-in-Four
unfolding extent spelled
returns-in-Four c = rw c.in-Four.is (record { bytes = refl; value = c.footer_len.ensures })

pub returns-in-Area : goal.returns-in-Area
unfolding extent spelled
returns-in-Area c = rw c.in-Area.is (record { bytes = refl; value = refl })

pub returns-in-Behind : goal.returns-in-Behind
unfolding extent spelled
returns-in-Behind c = rw c.in-Behind.is (record { bytes = c.less.ensures ∙ ap (λ (n : ℕ). n - c.args.at) c.behind_end.ensures; value = refl })

pub returns-in-Spare : goal.returns-in-Spare
unfolding extent spelled
returns-in-Spare c = rw c.in-Spare.is (record { bytes = c.less-in-Spare.ensures ∙ ap (λ (n : ℕ). n - c.args.at) c.footer_end.ensures; value = refl })
