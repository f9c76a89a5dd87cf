-- `bitpacker::get_at` meets its contract: at a legal width the number lies within the eight bytes that are fetched.
-- Assumes nothing.
use Prim.Native.Nat.{ℕ, ◌/◌, ◌%◌, ◌^◌}
use mathlib.Core.Path.{sym, ap, ◌∙◌}
use native.Mathlib.Omega.{arith}
use lib.ListN.{take, drop}
use Rattle.format.specs.Packing.{bytes_num}
use Rattle.format.specs.Word.{AllBelow}
use Rattle.format.proofs.Widths.{legal_most}
use Rattle.format.proofs.Gathering.{unpack-word}
use Rattle.bitpacker.proofs.get_at.Goals as goal

pub field-requires : goal.field-requires
field-requires c = (omega arith, legal_most c.args.width c.requires)

pub returns : goal.returns
returns c index is =
    let bytes : AllBelow 256 c.args.area.now = λ i h. (c.type_inv.area i).fits in
    c.field.ensures
    ∙ ap (λ (x : ℕ). x / 2 ^ (c.args.bit % 8) % 2 ^ c.args.width) c.fetch-word.ensures
    ∙ ap (λ (b : ℕ). bytes_num (take 8 (drop (b / 8) c.args.area.now)) / 2 ^ (b % 8) % 2 ^ c.args.width) is
    ∙ sym (unpack-word c.args.width c.args.area.now index bytes c.requires)
