-- `bitpacker::BitPacker::write` meets its contract, by the laws of a packer's two steps: the number is held, or a word is written.
-- Assumes nothing.
use Rattle.bitpacker.proofs.PackerLaws.{held_short, hold_below, word_fits, packs_held, packs_word}
use Rattle.bitpacker.proofs.BitPacker.write.Goals as goal

pub overflow_add-low : goal.overflow_add-low
overflow_add-low c =
    let s = c.requires.packs in
    record { fits = word_fits c.args.self.hold c.args.value c.args.self.held (held_short s) (hold_below s) }

pub returns-then-bits-lt64 : goal.returns-then-bits-lt64
returns-then-bits-lt64 c bits before s = packs_held s c.args.width c.args.value c.requires.fits c.if-bits-lt64.true

pub returns : goal.returns
returns c bits before s = packs_word s c.args.width c.args.value c.requires.fits c.requires.most c.if-bits-lt64.false c.put.ensures
