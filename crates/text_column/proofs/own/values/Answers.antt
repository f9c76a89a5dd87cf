-- `own::values` meets its contract: the front of the list is filled with the chunk, or its values are not counted.
-- Assumes nothing.
use Prim.Native.Nat.{ℕ, ◌≤◌}
use mathlib.Core.List.{List, ◌++◌}
use mathlib.Core.Path.{◌≡◌, sym, ap, ◌∙◌, subst}
use native.Mathlib.Omega.{arith}
use lib.ListN.{length, take, drop, length-append, length-drop}
use lib.Seq.{length-take-le}
use Rattle.format.specs.Reading.{column_row, place_of}
use Rattle.format.specs.Runs.{read_run}
use Rattle.read_row.specs.Chunks.{Fitting}
use Rattle.text_column.proofs.Holding.{values_front}
use Rattle.text_column.proofs.Owns.{own_window, own_moved, own_fits, own_values}
use Rattle.text_column.proofs.own.values.Goals as goal

pub decode_fitting-n-requires : goal.decode_fitting-n-requires
decode_fitting-n-requires c =
    let a = c.requires.at_row in
    let is = (let moved-here : c.column_row-at.result.0 ≡ column_row c.args.column c.args.row.0 = let a = c.requires.at_row in c.column_row-at.ensures ∙ own_moved a.shows a.inside in moved-here) in
    let there = own_window a.shows in
    let long = length-take-le c.args.size c.args.out.now (omega (arith, c.requires.size_value, c.requires.out_len)) in
    record { chunk = record { some = omega (arith, a.inside, c.requires.size_value); inside = omega (arith, a.inside, c.requires.size_value, is, there); one = omega (arith, a.inside, c.requires.size_value, is) }; fitting = subst (λ (q : ℕ). Fitting c.args.column (place_of c.args.column c.args.block q) c.args.bytes.now) (sym is) (own_fits a) }

-- a list whose front was filled is as long as it was
front_long : (out front : List ℕ) (size n : ℕ) → length front ≡ length (take size out) → size ≤ n → length out ≡ n → length (front ++ drop size out) ≡ n
front_long out front size n kept few long = omega (arith, length-append front (drop size out), length-drop size out, length-take-le size out (omega arith), kept)

pub returns : goal.returns
returns c =
    let size = c.args.size in
    let front = c.decode_fitting-n.new.out in
    let kept : length front ≡ length (take size c.args.out.now) = c.decode_fitting-n.auto.out in
    let few : size ≤ 512 = omega (arith, c.requires.size_value) in
    let long : length front ≡ size = kept ∙ length-take-le size c.args.out.now (omega (arith, c.requires.out_len)) in
    let at : c.column_row-at.result.0 ≡ column_row c.args.column c.args.row.0 =
    c.column_row-at.ensures ∙ own_moved c.requires.at_row.shows c.requires.at_row.inside in
    values_front _ _ front (drop size c.args.out.now) size (front_long c.args.out.now front size _ kept few c.requires.out_len) (sym long) few
    (own_values c.decode_fitting-n.result _ front c.requires.at_row at (c.decode_fitting-n.ensures.answer ∙ ap (read_run _ _) (sym kept)) (omega (arith, c.if-n-size.false)) (long ∙ c.requires.size_value))
