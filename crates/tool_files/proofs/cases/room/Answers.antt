use Rattle.std.proofs.Common.{ℕ}
use Rattle.std.proofs.Math.ListN.{length-replicate}
use Rattle.tool_files.proofs.cases.room.Goals as goal

pub returns : goal.returns
returns c = length-replicate {A = ℕ} 524288 0
