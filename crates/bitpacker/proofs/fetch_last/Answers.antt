-- `bitpacker::fetch_last` meets its contract: past the end stands nothing, and the last bytes are the last eight without those before them.
-- Assumes nothing.
use Prim.Native.Nat.{ℕ, ◌+◌, ◌-◌, ◌*◌, ◌/◌, ◌^◌, ◌≤◌, ◌<◌}
use mathlib.Core.Path.{◌≡◌, sym, ap, ◌∙◌}
use mathlib.Core.List.{List}
use native.Mathlib.Omega.{arith}
use lib.ListN.{length, take, drop, length-drop}
use lib.Seq.{take_all, drop-drop}
use Rattle.format.specs.Word.{AllBelow}
use Rattle.format.specs.Packing.{bytes_num, num_of, rows_bits}
use Rattle.format.proofs.Lists.{all_drop}
use Rattle.format.proofs.Bits.{num_of-drop, rows_bits_bits, rows_bits-drop}
use Rattle.format.proofs.Gathering.{bytes_num_past, num_of_bytes}
use Rattle.bitpacker.proofs.fetch_last.Goals as goal

-- the number of some bytes without the first k
without : (k : ℕ) (l : List ℕ) → AllBelow 256 l → bytes_num l / 2 ^ (8 * k) ≡ bytes_num (drop k l)
without k l h =
    ap (λ (x : ℕ). x / 2 ^ (8 * k)) (sym (num_of_bytes l h))
    ∙ sym (num_of-drop (8 * k) (rows_bits 8 l) (rows_bits_bits 8 l))
    ∙ ap num_of (rows_bits-drop 8 k l)
    ∙ num_of_bytes (drop k l) (all_drop k l h)

-- the last bytes, by the last eight
by_eight : (l : List ℕ) (at : ℕ) → AllBelow 256 l → 8 ≤ length l → length l < at + 8 → at < length l
    → bytes_num (take 8 (drop (length l - 8) l)) / 2 ^ (8 * (at - (length l - 8))) ≡ bytes_num (take 8 (drop at l))
by_eight l at h many near inside =
    let start = length l - 8 in
    let far : start + (at - start) ≡ at = omega arith in
    let whole : take 8 (drop start l) ≡ drop start l = take_all 8 (drop start l) (omega (arith, length-drop start l)) in
    let few : take 8 (drop at l) ≡ drop at l = take_all 8 (drop at l) (omega (arith, length-drop at l)) in
    ap (λ (d : List ℕ). bytes_num d / 2 ^ (8 * (at - start))) whole
    ∙ without (at - start) (drop start l) (all_drop start l h)
    ∙ ap bytes_num (drop-drop (at - start) start l ∙ ap (λ (k : ℕ). drop k l) far ∙ sym few)

pub returns-then-area-at : goal.returns-then-area-at
returns-then-area-at c = sym (bytes_num_past c.args.area.now c.args.at 8 c.if-area-at.true)

pub returns : goal.returns
returns c =
    let bytes : AllBelow 256 c.args.area.now = λ i h. (c.type_inv.area i).fits in
    ap (λ (x : ℕ). x / 2 ^ (8 * (c.args.at - (length c.args.area.now - 8)))) c.gather.ensures
    ∙ by_eight c.args.area.now c.args.at bytes c.requires.0 c.requires.1 c.if-area-at.false
