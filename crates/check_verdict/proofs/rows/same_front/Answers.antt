-- `same_front` meets its contract: the chain takes pairs as long as their two numbers are equal.
-- Assumes nothing.
use Rattle.std.proofs.Common.{rules, tests, ◌≡◌, ◌∙◌, length, take}
use Rattle.std.specs.List.{zip, prefix_len}
use Rattle.std.proofs.lemmas.Iterator.{YieldsList-from_slice, YieldsList-from_zip}
use Rattle.std.proofs.lemmas.Iterator.Consumers.{YieldsList-at, count_from_yields_List}
use Rattle.std.proofs.lemmas.Iterator.Search.{YieldsList-from_take_while}
use Rattle.format.specs.Typed.{stored_in}
use Rattle.check_verdict.proofs.Fronts.{fronts_paired, same_pair}
use Rattle.check_verdict.proofs.rows.same_front.Goals as goal

pub returns : goal.returns
returns c =
    let f = stored_in c.args.kind in
    let xs = c.args.numbers.now in
    let vs = c.args.values.now in
    let pairs = YieldsList-from_zip (YieldsList-at c.zip.ensures.first (YieldsList-from_slice xs c.iter.ensures.rest)) (YieldsList-from_slice vs c.zip.ensures.second.0) in
    let taken : c.count.result ≡ length (take (prefix_len (same_pair f) (zip xs vs)) (zip xs vs)) =
    count_from_yields_List c.take_while.result _ c.count.ensures.ran
    (YieldsList-from_take_while _ (same_pair f) (YieldsList-at c.take_while.ensures.source pairs) c.take_while.ensures.closure c.take_while.ensures.done (λ x b q k. search (rules, tests))) in
    taken ∙ fronts_paired f xs vs
