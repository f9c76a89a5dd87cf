-- `bitpacker::put` meets its contract: the bytes of a word are its lowest ones, little end first.
-- Assumes nothing.
use Prim.Native.Nat.{ℕ, ◌+◌, ◌-◌, ◌≤◌}
use mathlib.Core.Path.{◌≡◌, sym, ap, ◌∙◌}
use mathlib.Core.List.{append_assoc}
use native.Mathlib.Omega.{arith}
use native.Mathlib.Nat.{div-div-eq-div-mul}
use lib.ListN.{take, drop}
use lib.Seq.{take_at}
use borrow.Rule.Slice.PartMut.{Post-is}
use Rattle.std.specs.Int.{w64, to_le_bytes}
use Rattle.format.specs.Packing.{num_bytes}
use Rattle.format.proofs.Gathering.{length-num_bytes, num_bytes_split}
use Rattle.bitpacker.proofs.put.Goals as goal

-- all bytes of a word
spelled : (x : ℕ) → to_le_bytes w64 x ≡ num_bytes 8 x
unfolding num_bytes
spelled x = simp div-div-eq-div-mul

-- the lowest n
lowest : (n x : ℕ) → n ≤ 8 → take n (to_le_bytes w64 x) ≡ num_bytes n x
lowest n x h =
    let all : n + (8 - n) ≡ 8 = omega arith in
    ap (take n) (spelled x ∙ ap (λ (k : ℕ). num_bytes k x) (sym all) ∙ num_bytes_split n (8 - n) x)
    ∙ take_at (num_bytes n x) _ n (length-num_bytes n x)

pub returns : goal.returns
returns c =
    let part = c.copy_from_slice.ensures.after ∙ ap (take c.args.n) c.to_le_bytes.ensures ∙ lowest c.args.n c.args.word c.requires.1 in
    rw (part, Post-is c.args.at (c.args.at + c.args.n) c.args.out.now (omega arith)) (sym (append_assoc (take c.args.at c.args.out.now) (num_bytes c.args.n c.args.word) (drop (c.args.at + c.args.n) c.args.out.now)))
