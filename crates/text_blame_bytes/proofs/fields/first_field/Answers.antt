-- `first_field` meets its contract: the first offset that has a field.
-- Assumes nothing.
use Rattle.std.proofs.Common.{rules}
use Rattle.std.proofs.iter.Serving.{returning}
use Rattle.std.specs.Prelude.{Some, None, MatchOption}
use Prim.Native.Nat.{ℕ, ◌<◌}
use mathlib.Core.Path.{◌≡◌}
use lib.ListN.{length}
use Rattle.byte_part.specs.Bytes.{part_of}
use Rattle.text_blame_bytes.specs.Fields.{first_field}
use Rattle.text_blame_bytes.proofs.FirstField.{first_found}
use Rattle.text_blame_bytes.proofs.fields.first_field.Goals as goal

pub returns : goal.returns
unfolding first_field
returns c =
    let left = c.args.left.now in
    let field = λ (k : ℕ). first_field (part_of left c.args.column) left c.args.right.now k 1 in
    let cases : MatchOption c.find_map.result ((k : ℕ) → k < length left → field k ≡ None)
    (λ y. (i : ℕ) × (i < length left) × (field i ≡ Some y) × ((k : ℕ) → k < i → field k ≡ None)) = search (rules, returning) in
    first_found (part_of left c.args.column) left c.args.right.now (length left) c.find_map.result cases
