-- `put_name` meets its contract: a name is what stands before its words, and its words.
-- Assumes nothing.
use native.Mathlib.Omega.{arith}
use Rattle.format.proofs.Stores.{wrote_then}
use Rattle.text_explain.proofs.Wording.{Named, name_made}
use Rattle.text_explain.proofs.words.put_name.Goals as goal

pub put_block-behind-requires : goal.put_block-behind-requires
put_block-behind-requires c = omega (arith, ((let made-here : Named c.args.name c.which_part-which.result c.block_of.result = name_made c.args.name c.which_part-which.ensures c.block_of.ensures (omega arith) in made-here)).short)

pub put_word-requires : goal.put_word-requires
put_word-requires c =
    let name = (let made-here : Named c.args.name c.which_part-which.result c.block_of.result = name_made c.args.name c.which_part-which.ensures c.block_of.ensures (omega arith) in made-here) in
    record { which_bound = name.few; which_in_bounds = omega (arith, name.short, c.put_block-behind.ensures.ends) }

pub returns : goal.returns
returns c =
    let name = (let made-here : Named c.args.name c.which_part-which.result c.block_of.result = name_made c.args.name c.which_part-which.ensures c.block_of.ensures (omega arith) in made-here) in
    let wrote = wrote_then c.put_block-behind.ensures c.put_word.ensures in
    record { wrote = rw name.is at wrote; upper_bound = omega (arith, name.short, c.put_block-behind.ensures.ends, c.put_word.ensures.ends) }
