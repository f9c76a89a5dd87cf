-- `text_check::verdicts::check_front` meets its contract: too many bytes, or the limited verdict with room for 2048 blocks.
-- Assumes nothing.
use Prim.Native.Nat.{ℕ}
use mathlib.Core.Path.{ap, ◌∙◌}
use mathlib.Core.List.{List}
use native.Mathlib.Omega.{arith}
use lib.ListN.{take}
use lib.Seq.{length-take-le}
use Rattle.format.specs.Checking.{checked}
use Rattle.format.specs.Sheets.{opened_under}
use Rattle.format.proofs.StoredLists.{stored-numbers}
use Rattle.text_check.proofs.Limits.{over_bytes, within_limits}
use Rattle.text_check.proofs.verdicts.check_front.Goals as goal

pub returns-then-bytes-gt-BYTES_MAX : goal.returns-then-bytes-gt-BYTES_MAX
returns-then-bytes-gt-BYTES_MAX c = over_bytes _ _ _ c.if-bytes-gt-BYTES_MAX.true

pub returns : goal.returns
returns c =
    let s = c.args.bytes.now in
    let values = take c.args.n c.args.values.now in
    c.within_rows.ensures
    ∙ within_limits c.args.sheet s values c.if-bytes-gt-BYTES_MAX.false (omega (arith, length-take-le c.args.n c.args.values.now c.requires.0))
    (c.verdict_on-checked.ensures c.args.sheet 2048 c.open_plain_under-opened.ensures ∙ ap (λ (l : List ℕ). checked (opened_under c.args.sheet s 2048) s l) (stored-numbers values))
