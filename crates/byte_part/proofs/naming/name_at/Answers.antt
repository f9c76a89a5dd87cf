-- `byte_part::naming::name_at` meets its contract: the head's names, and those behind them.
-- Assumes nothing.
use Rattle.std.proofs.Common.{sym, ◌∙◌}
use Rattle.byte_part.proofs.Names.{names-behind}
use Rattle.byte_part.proofs.naming.name_at.Goals as goal

pub returns : goal.returns
returns c = c.name_behind.ensures ∙ sym (names-behind c.args.codec c.args.rows c.args.number c.if-number-lt5.false)
