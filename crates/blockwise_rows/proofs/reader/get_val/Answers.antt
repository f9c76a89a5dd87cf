-- `blockwise_rows::reader::get_val` meets its contract: line plus packed number, both at the row within the block, is the multiple.
-- Assumes nothing.
use Prim.Native.Nat.{ℕ, ◌+◌, ◌%◌}
use mathlib.Core.Path.{◌≡◌, ◌∙◌}
use mathlib.Core.List.{List}
use lib.ListN.{drop}
use Rattle.format.specs.declared.Block.{Block}
use Rattle.format.specs.declared.Codec.TheVariants.{Blockwise}
use Rattle.format.specs.declared.Column.{Column}
use Rattle.format.specs.Outcome.{Outcome}
use Rattle.format.specs.Word.{mod_add}
use Rattle.format.specs.Line.{line_at}
use Rattle.format.specs.Packing.{unpack}
use Rattle.format.specs.Reading.{place_in, packed_of, scaled, value_in}
use Rattle.blockwise_rows.proofs.reader.get_val.Goals as goal

-- the value by the row i within the block, its line, its number and their sum
value_is : (col : Column) (b : Block) (s : List ℕ) (r : ℕ) {i n at sum : ℕ} {o : Outcome ℕ} → col.codec ≡ Blockwise
    → i ≡ r % 512 → n ≡ unpack b.bits (drop (col.start + b.start) s) i → at ≡ line_at b.line i → sum ≡ mod_add at n → o ≡ scaled col r sum
    → o ≡ value_in col.codec col b r (packed_of col b s r)
unfolding value_in packed_of place_in
value_is col b s r {i} {n} {at} {sum} {o} codec within number line add means = means ∙ rw (codec, add, line, number, within)

pub returns : goal.returns
returns c =
    value_is c.args.column c.args.block c.args.bytes.now c.args.row.0 c.requires.codec c.split.ensures.1
    c.residual-number.ensures
    c.eval.ensures c.add-multiple.ensures c.scaled.ensures
