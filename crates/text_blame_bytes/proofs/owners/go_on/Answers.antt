-- `go_on` meets its contract: the search as it was, or past blocks that have no rows at its byte.
-- Assumes nothing.
use mathlib.Core.Path.{refl}
use native.Mathlib.Omega.{arith}
use Rattle.text_blame_bytes.proofs.Passed.{passed_over}
use Rattle.text_blame_bytes.proofs.owners.go_on.Goals as goal

pub returns-then-pass-search : goal.returns-then-pass-search
returns-then-pass-search c = record { searching = c.requires.1; result_value = refl }

pub returns-then-search-passed : goal.returns-then-search-passed
returns-then-search-passed c = record { searching = c.requires.1; result_value = refl }

pub returns-then-search-pass : goal.returns-then-search-pass
returns-then-search-pass c = record { searching = c.requires.1; result_value = refl }

pub returns : goal.returns
returns c = let whole = passed_over c.requires.0 c.requires.1 c.if-pass-search.false c.if-search-passed.false (omega (arith, c.if-search-pass.false)) in record { searching = whole.0; result_value = whole.1 }
