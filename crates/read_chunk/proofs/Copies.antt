-- A part of a list that was written as a whole.
--     part_sets        what it holds is stored there
-- Assumes nothing.
use Prim.Native.Nat.{ℕ, ◌+◌, ◌≤◌}
use mathlib.Core.Path.{◌≡◌, ap}
use mathlib.Core.List.{List, ◌++◌, append_assoc}
use lib.ListN.{length, take, drop}
use lib.Seq.{sets, sets-eq, drop-drop}
use borrow.Rule.Slice.PartMut.{put_mid}

pub part_sets : (at n : ℕ) (list part values : List ℕ) → part ≡ values → n ≡ length values → at + length values ≤ length list → put_mid at n list part ≡ sets list at values
part_sets at n list part values same long room =
    rw (same, long, sets-eq values list at room, append_assoc (take at list) values (drop (at + length values) list))
    (ap (λ (behind : List ℕ). take at list ++ (values ++ behind)) (drop-drop (length values) at list))
