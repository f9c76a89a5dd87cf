-- `put_text` meets its contract: a copy into the buffer from the offset on is the text written there.
-- Assumes nothing.
use mathlib.Core.Path.{◌≡◌, ap}
use mathlib.Core.List.{List, ◌++◌, append_assoc}
use Prim.Native.Nat.{ℕ, ◌+◌, ◌≤◌}
use native.Mathlib.Omega.{arith}
use lib.ListN.{length, take, drop}
use lib.Seq.{sets, sets-eq, drop-drop}
use borrow.Rule.Slice.PartMut.{put_mid}
use Rattle.text.proofs.put.put_text.Goals as goal

-- what a part of a list holds is stored there
mid-sets : (at k : ℕ) (old now text : List ℕ) → now ≡ text → k ≡ length text → at + length text ≤ length old → put_mid at k old now ≡ sets old at text
mid-sets at k old now text e f room =
    rw (e, f, sets-eq text old at room, append_assoc (take at old) text (drop (at + length text) old)) (ap (λ (m : List ℕ). take at old ++ (text ++ m)) (drop-drop (length text) at old))

pub returns : goal.returns
returns c = record {
  ends = omega arith;
  list = mid-sets c.args.at _ c.args.out.now c.copy_from_slice.new.self c.args.s.now c.copy_from_slice.ensures.after (omega arith) (omega arith);
}
