-- `bitpacker::gather` meets its contract. The loop's invariant: the word is the number of the bytes from `at + k` on that were gathered.
-- Assumes nothing.
use Prim.Native.Nat.{ℕ, suc, ◌+◌, ◌-◌, ◌*◌, ◌^◌, ◌≤◌, ◌<◌}
use mathlib.Core.Path.{◌≡◌, sym, ap, ap₂, ◌∙◌}
use mathlib.Core.List.{List}
use native.Mathlib.Nat.{lt_of_lt_of_le, sub_self, sub-zero, add-zero}
use native.Mathlib.Omega.{arith}
use lib.ListN.{length, take, drop, get_or}
use lib.Pow.{pow_mono}
use Rattle.format.specs.Word.{AllBelow}
use Rattle.format.specs.Packing.{bytes_num}
use Rattle.format.proofs.Lists.{all_drop}
use Rattle.format.proofs.Gathering.{bytes_num_step, bytes_num_below}
use Rattle.bitpacker.proofs.gather.Goals as goal

-- one byte more, in front of those gathered
more : (area : List ℕ) (at n k : ℕ) → 0 < k → k ≤ n → at + n ≤ length area
    → bytes_num (take (n - k) (drop (at + k) area)) * 256 + get_or area (at + (k - 1)) 0 ≡ bytes_num (take (n - (k - 1)) (drop (at + (k - 1)) area))
more area at n k pos le fit =
    let from : at + k ≡ suc (at + (k - 1)) = omega arith in
    let count : n - (k - 1) ≡ suc (n - k) = omega arith in
    let step = bytes_num_step area (at + (k - 1)) (n - k) (omega arith) in
    let same : bytes_num (take (n - k) (drop (at + k) area)) ≡ bytes_num (take (n - k) (drop (suc (at + (k - 1))) area)) = ap (λ (j : ℕ). bytes_num (take (n - k) (drop j area))) from in
    omega (arith, ap (λ (j : ℕ). bytes_num (take j (drop (at + (k - 1)) area))) count)

-- seven bytes leave room for one more
room : (area : List ℕ) (at n : ℕ) → AllBelow 256 area → n ≤ 7 → bytes_num (take n (drop at area)) < 2 ^ 56
room area at n h le = lt_of_lt_of_le (bytes_num_below n (drop at area) (all_drop at area h)) (pow_mono {j = 56} (omega arith))

pub loop-k-init : goal.loop-k-init
unfolding bytes_num
loop-k-init c = sym (ap (λ (j : ℕ). bytes_num (take j (drop (c.args.at + c.args.n) c.args.area.now))) (sub_self c.args.n))

pub overflow_cast-byte : goal.overflow_cast-byte
overflow_cast-byte c = omega (arith, c.type_inv.area (c.args.at + (c.loop-k.k - 1)))

pub overflow_mul-word : goal.overflow_mul-word
overflow_mul-word c =
    let bytes : AllBelow 256 c.args.area.now = λ i h. (c.type_inv.area i).fits in
    let small : c.loop-k.word < 2 ^ 56 = omega (arith, room c.args.area.now (c.args.at + c.loop-k.k) (c.args.n - c.loop-k.k) bytes (omega arith)) in
    omega (arith, small)

pub overflow_add-word : goal.overflow_add-word
overflow_add-word c =
    let bytes : AllBelow 256 c.args.area.now = λ i h. (c.type_inv.area i).fits in
    let small : c.loop-k.word < 2 ^ 56 = omega (arith, room c.args.area.now (c.args.at + c.loop-k.k) (c.args.n - c.loop-k.k) bytes (omega arith)) in
    omega (arith, small, c.type_inv.area (c.args.at + (c.loop-k.k - 1)))

pub loop-k-preserved : goal.loop-k-preserved
loop-k-preserved c =
    let next = more c.args.area.now c.args.at c.args.n c.loop-k.k (omega arith) (omega arith) (omega arith) in
    ap (λ (x : ℕ). x * 256 + get_or c.args.area.now (c.args.at + (c.loop-k.k - 1)) 0) c.loop-k.invariant ∙ next

pub returns : goal.returns
returns c =
    let end : c.loop-k.k ≡ 0 = omega arith in
    c.loop-k.invariant ∙ ap (λ (k : ℕ). bytes_num (take (c.args.n - k) (drop (c.args.at + k) c.args.area.now))) end
    ∙ ap₂ (λ (n at : ℕ). bytes_num (take n (drop at c.args.area.now))) (sub-zero c.args.n) (add-zero c.args.at)
