-- `c_row::number_at` meets its contract: at a legal width the number lies within the eight bytes, which lie within the area.
-- Assumes nothing.
use Rattle.std.proofs.Common.{ℕ, ◌+◌, ◌*◌, ◌/◌, ◌%◌, ◌^◌, ap, ◌∙◌, get_or, arith}
use Rattle.format.specs.Word.{AllBelow}
use Rattle.c_row.proofs.Numbers.{ends_inside, stands}
use Rattle.c_row.proofs.number_at.Goals as goal

pub returns : goal.returns
returns c e =
    let a = c.args in
    let bytes : AllBelow 256 a.bytes.now = λ i h. (c.type_inv.bytes i).fits in
    record {
      area = omega arith;
      ends = ends_inside a.width a.row a.from (get_or a.numbers.now 6 0) c.requires.0 c.if-size-from.false c.if-size-from-2.false;
      number =
          c.field.ensures
          ∙ ap (λ (x : ℕ). x / 2 ^ (a.row * a.width % 8) % 2 ^ a.width) c.eight-word.ensures
          ∙ stands a.width a.bytes.now (get_or a.numbers.now 5 0 + a.from) a.row bytes c.requires.0;
    }
