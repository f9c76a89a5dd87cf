-- Each chunk makes the way shorter.
use Rattle.std.proofs.Common.{sym, ◌∙◌}
use Rattle.text_compare.proofs.Ways.{handed_less}
use Rattle.test_text.proofs.comparing.write_rows.Goals as goal

pub loop-at-smaller : goal.loop-at-smaller
loop-at-smaller g c = handed_less c.loop-at.invariant.1 (sym c.more.ensures ∙ c.loop-at-test.true) c.fill-handed.ensures
