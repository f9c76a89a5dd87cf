-- `bitpacker::part` meets its contract: its byte and its shift are those of its row.
-- Assumes nothing.
use Prim.Native.Nat.{ℕ, ◌*◌, ◌/◌, ◌%◌, ◌^◌}
use mathlib.Core.Path.{sym, ap, ap₂, ◌∙◌}
use native.Mathlib.Omega.{arith}
use lib.ListN.{take, drop}
use Rattle.format.specs.Packing.{bytes_num}
use Rattle.format.specs.Word.{AllBelow}
use Rattle.format.proofs.Widths.{legal_most}
use Rattle.format.proofs.Gathering.{unpack-word}
use Rattle.bitpacker.proofs.RunLaws.{part_byte, part_shift, part_most, part_small, whole_bits, rest_bits}
use Rattle.bitpacker.proofs.part.Goals as goal

pub overflow_mul-k : goal.overflow_mul-k
overflow_mul-k c = record { fits = omega (arith, whole_bits c.requires, part_small c.requires) }

pub overflow_add-at : goal.overflow_add-at
overflow_add-at c = record { fits = omega (arith, part_most c.requires) }

pub overflow_mul-k-2 : goal.overflow_mul-k-2
overflow_mul-k-2 c = record { fits = omega (arith, rest_bits c.requires, part_small c.requires) }

pub overflow_add-at-2 : goal.overflow_add-at-2
overflow_add-at-2 c = record { fits = omega (arith, part_most c.requires) }

pub eight-word-requires : goal.eight-word-requires
eight-word-requires c = part_most c.requires

pub overflow_mul-k-3 : goal.overflow_mul-k-3
overflow_mul-k-3 c = record { fits = omega (arith, rest_bits c.requires, part_small c.requires) }

pub field-requires : goal.field-requires
field-requires c = (omega arith, legal_most _ c.requires.lawful)

pub returns : goal.returns
returns c index place =
    let area = c.args.area.now in
    let bytes : AllBelow 256 area = λ i h. (c.type_inv.area i).fits in
    let byte = part_byte c.args.width c.args.at c.args.whole c.args.rest c.args.k index c.requires.wide place in
    let shift = part_shift c.args.width c.args.at c.args.whole c.args.rest c.args.k index c.requires.wide place in
    c.field.ensures
    ∙ ap (λ (x : ℕ). x / 2 ^ (c.args.k * c.args.rest % 8) % 2 ^ c.args.width) c.eight-word.ensures
    ∙ ap₂ (λ (b s : ℕ). bytes_num (take 8 (drop b area)) / 2 ^ s % 2 ^ c.args.width) (sym byte) (sym shift)
    ∙ sym (unpack-word c.args.width area index bytes c.requires.lawful)
