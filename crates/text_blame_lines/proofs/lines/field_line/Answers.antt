-- `field_line` meets its contract: its fields have room in 128 bytes.
-- Assumes nothing.
use Prim.Native.Nat.{◌≤◌}
use native.Mathlib.Omega.{arith}
use lib.ListN.{length}
use Rattle.format.specs.Listing.{ascii, named}
use Rattle.format.proofs.Stores.{wrote_then}
use Rattle.text.proofs.Texts.{named_most, counts}
use Rattle.text_blame_lines.specs.Bytes.{field_line}
use Rattle.text_blame_lines.proofs.lines.field_line.Goals as goal

pub put_named-number-requires : goal.put_named-number-requires
put_named-number-requires c = omega (arith, (let most : length (named (ascii "fields differ at byte ") c.args.offset) ≤ 42 = named_most _ _ (omega arith) in most))

pub put_byte-space-requires : goal.put_byte-space-requires
put_byte-space-requires c = omega (arith, (let most : length (named (ascii "fields differ at byte ") c.args.offset) ≤ 42 = named_most _ _ (omega arith) in most))

pub put_name-words-requires : goal.put_name-words-requires
put_name-words-requires c = omega (arith, (let most : length (named (ascii "fields differ at byte ") c.args.offset) ≤ 42 = named_most _ _ (omega arith) in most))

pub put_byte-requires : goal.put_byte-requires
put_byte-requires c = omega (arith, (let most : length (named (ascii "fields differ at byte ") c.args.offset) ≤ 42 = named_most _ _ (omega arith) in most))

pub returns : goal.returns
unfolding field_line
returns c =
    let short = (let most : length (named (ascii "fields differ at byte ") c.args.offset) ≤ 42 = named_most _ _ (omega arith) in most) in
    record { wrote = wrote_then c.put_named-number.ensures (wrote_then c.put_byte-space.ensures (wrote_then c.put_name-words.ensures.wrote c.put_byte.ensures)); prefix_len = counts _ _ (omega arith) }
