-- Each chunk makes the way shorter.
use Rattle.std.proofs.Common.{sym, ◌∙◌}
use Rattle.text_explain.proofs.Ways.{handed_less}
use Rattle.tool_explain.proofs.write_explanation.Goals as goal

pub loop-at-smaller : goal.loop-at-smaller
loop-at-smaller g c = handed_less c.args.bytes.now c.loop-at.invariant (sym c.more.ensures ∙ c.loop-at-test.true) c.fill-handed.ensures
