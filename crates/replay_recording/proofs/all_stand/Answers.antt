-- `replay_recording::all_stand` meets its contract: the records are tested as the definition does.
-- Assumes nothing.
use Rattle.std.proofs.Common.{rules, tests, arith, ◌≡◌, refl, sym, ◌∙◌}
use Rattle.std.proofs.lemmas.Iterator.{YieldsList-from_range}
use Rattle.std.proofs.lemmas.Iterator.Search.{all_from_yields_List}
use Rattle.std.specs.List.{list_all, range_with_len}
use Rattle.replay_recording.proofs.Numbers.{standing, placed_each}
use Rattle.replay_recording.proofs.all_stand.Goals as goal

pub returns : goal.returns
returns c =
    let each : c.all.result ≡ list_all (standing c.args.head c.args.recording.now) (range_with_len 0 c.args.head.records) =
    all_from_yields_List (standing c.args.head c.args.recording.now) _ _ c.all.result c.all.ensures.ran (YieldsList-from_range 0 c.args.head.records c.args.head.records refl (omega arith)) (λ x b q k. search (rules, tests)) in
    each ∙ sym (placed_each c.args.head c.args.recording.now 0 c.args.head.records)
