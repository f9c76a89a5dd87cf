-- A chunk decoded where it is to stand, in the second pass of a run over several chunks. Over any reading.
--     placed           a part of a list, lent and given back, as stores
--     looks            a pass that looks stores no chunk
--     straight         no row is refused there, so that the list is what storing leaves
-- Assumes nothing.
use Rattle.format.specs.declared.Refusal.{Refusal}
use Rattle.std.specs.Prelude.{Result, Ok, Err}
use Prim.Native.Nat.{ℕ, ◌+◌, ◌-◌, ◌≤◌, ◌<◌}
use mathlib.Core.Path.{◌≡◌, refl, sym, ap, ◌∙◌}
use mathlib.Core.Bool.{true, false}
use mathlib.Core.Logic.{⊎_elim}
use mathlib.Core.List.{List, ◌++◌, append_assoc}
use native.Mathlib.Omega.{arith}
use lib.ListN.{length, take, drop, length-drop}
use lib.Seq.{sets, sets-eq, drop-drop, length-take-le}
use Rattle.format.specs.declared.Window.{Window}
use Rattle.format.specs.Outcome.{Outcome, pick, how_many}
use Rattle.format.specs.Runs.{read_run}
use Rattle.format.proofs.Outcomes.{not_value}
use Rattle.read_row.specs.Chunks.{DecodedAs}
use Rattle.read_run.specs.Places.{PlacedAs}
use Rattle.read_walk.specs.declared.Walk.{Walk}
use Rattle.read_walk.specs.Walks.{Kept.all_values, next_chunk, stores, Single, Unrefused, InPass, Walking}
use Rattle.read_walk.proofs.Walking.{refuses}

-- a part of a list that was lent, and came back with as many entries
there : (l part : List ℕ) (from to size : ℕ) → to ≡ from + size → to ≤ length l → length part ≡ size → take from l ++ (part ++ drop (to - from) (drop from l)) ≡ sets l from part
there l part from to size end inside long =
    let behind : from + (to - from) ≡ from + length part = omega arith in
    sym
    (sets-eq part l from (omega arith)
    ∙ append_assoc (take from l) part (drop (from + length part) l)
    ∙ ap (λ (m : List ℕ). take from l ++ (part ++ m)) (ap (λ (k : ℕ). drop k l) (sym behind) ∙ sym (drop-drop (to - from) from l)))

-- a chunk was decoded in such a part
pub placed : (read : ℕ → Outcome ℕ) (first from size to : ℕ) (l part : List ℕ) (d : Result (Unit {0}) Refusal) → to ≡ from + size → to ≤ length l → length part ≡ length (take (to - from) (drop from l))
    → DecodedAs (read_run read first (length (take (to - from) (drop from l)))) d part → PlacedAs (read_run read first size) d size from l (take from l ++ (part ++ drop (to - from) (drop from l)))
placed read first from size to l part d end inside kept found =
    let lent : length (take (to - from) (drop from l)) ≡ size = length-take-le (to - from) (drop from l) (omega (arith, length-drop from l)) ∙ omega arith in
    record {
      values = part;
      found = rw lent at found;
      long = kept ∙ lent;
      list = there l part from to size end inside (kept ∙ lent);
    }

pub looks : (w : Walk) (d : Result (Unit {0}) Refusal) → w.storing ≡ false → stores w d ≡ false
looks w (Ok tt) e = e
looks w (Err x) e = refl

module _ {read : ℕ → Outcome ℕ} {window : Window} {o : Outcome (List ℕ)} {before list : List ℕ} {w : Walk} (f : InPass all_values read window o before w list) (size : ℕ) (chunk : size ≡ next_chunk w) (on : w.storing ≡ true) (several : size < w.end - w.first) where
  -- a second pass refuses no row
  unrefused : Unrefused o
  unrefused =
      ⊎_elim
      (λ (one : Single (length before) w). absurd (omega (arith, one.begins, one.one, chunk, several)))
      (λ (good : Unrefused o). good)
      (f.clean on)

  pub straight : (r : Walk) (d : Result (Unit {0}) Refusal) (values : List ℕ) {after : List ℕ} → DecodedAs (read_run read w.at size) d values → after ≡ sets list w.n values
      → Walking all_values read window o before r (pick (stores w d) (sets list w.n values) list) → Walking all_values read window o before r after
  straight r (Ok tt) values found is walk = rw (is, ← ap (λ b. pick b (sets list w.n values) list) on) walk
  straight r (Err x) values found is walk =
      absurd (not_value ((refuses all_values read f size chunk x (sym found.answer)).answer ∙ ap how_many unrefused.is))
