-- Stores into a lent list, and a list's rest lent on: what every writer cites.
--     sets-append, wrote_then      two runs of stores, one behind the other, are one
--     sets-apart                   two runs of stores that lie apart may change places
--     stores_front, front_of       what a run of stores left at a list's front
--     rest_is, rest_room           the rest of a list from an offset on, as it is lent to a call, and its room
--     rest_back, rest_wrote        the whole list after a call that filled the front of its rest
-- Assumes nothing.
use mathlib.Core.Path.{◌≡◌, refl, sym, ap, ◌∙◌}
use mathlib.Core.List.{List, [], ◌∷◌, ◌++◌, append_assoc, append-nil}
use Prim.Native.Nat.{ℕ, suc, ◌+◌, ◌-◌, ◌≤◌, ◌<◌}
use native.Mathlib.Nat.{add-zero, add-suc, suc-add}
use native.Mathlib.Omega.{arith}
use lib.ListN.{length, take, drop, set, length-append, length-drop, drop_of_length-le}
use lib.Seq.{sets, sets-eq, set_comm, take_all, take_at, drop-drop}
use Rattle.format.specs.Outcome.{Wrote}

-- ---- runs of stores

-- two runs of stores, one behind the other, are one
pub sets-append : (xs l : List ℕ) (i : ℕ) (ys : List ℕ) → sets (sets l i xs) (i + length xs) ys ≡ sets l i (xs ++ ys)
sets-append [] l i ys = rw (add-zero i)
sets-append (x ∷ xs) l i ys = rw (add-suc i (length xs), ← suc-add i (length xs)) (sets-append xs (set l i x) (suc i) ys)

-- fields written one behind the other are their bytes written at once
pub wrote_then : {l : List ℕ} {i : ℕ} {xs m : List ℕ} {j : ℕ} {ys n : List ℕ} {k : ℕ} → Wrote l i xs m j → Wrote m j ys n k → Wrote l i (xs ++ ys) n k
wrote_then {l} {i} {xs} {m} {j} {ys} {n} {k} a b = record {
  ends = omega (arith, a.ends, b.ends, length-append xs ys);
  list = b.list ∙ rw (a.list, a.ends) (sets-append xs l i ys);
}

-- a store before a run of stores that lies behind it comes to the same as one after it
set_past : (ys l : List ℕ) (i j x : ℕ) → i < j → sets (set l i x) j ys ≡ set (sets l j ys) i x
set_past [] l i j x h = refl
set_past (y ∷ ys) l i j x h = ap (λ (m : List ℕ). sets m (suc j) ys) (set_comm l i j x y (λ e. omega arith)) ∙ set_past ys (set l j y) i (suc j) x (omega arith)

-- two runs of stores that lie apart may change places
pub sets-apart : (xs l : List ℕ) (i j : ℕ) (ys : List ℕ) → i + length xs ≤ j → sets (sets l i xs) j ys ≡ sets (sets l j ys) i xs
sets-apart [] l i j ys h = refl
sets-apart (x ∷ xs) l i j ys h = sets-apart xs (set l i x) (suc i) j ys (omega arith) ∙ ap (λ (m : List ℕ). sets m (suc i) xs) (set_past ys l i j x (omega arith))

-- ---- a list's rest from an offset on, lent to a call

-- what was stored at a list's front is its front
pub stores_front : (old xs : List ℕ) → length xs ≤ length old → take (length xs) (sets old 0 xs) ≡ xs
stores_front old xs h = rw (sets-eq xs old 0 (omega arith)) (take_at xs (drop (0 + length xs) old) (length xs) refl)

-- the same of what is told to be so long, and the list to be left so
pub front_of : (out after bytes : List ℕ) (n : ℕ) → n ≡ length bytes → after ≡ sets out 0 bytes → length bytes ≤ length out → take n after ≡ bytes
front_of out after bytes n e f h = rw (e, f) (stores_front out bytes h)

-- the rest, as it is lent
pub rest_is : (at : ℕ) (l : List ℕ) → take (length l - at) (drop at l) ≡ drop at l
rest_is at l = take_all (length l - at) (drop at l) (omega (arith, length-drop at l))

-- where calls so far kept a list's length, room in it is room in its rest
pub rest_room : (new old : List ℕ) (at : ℕ) {n : ℕ} → length new ≡ length old → at + n ≤ length old → n ≤ length (take (length new - at) (drop at new))
rest_room new old at e room = rw (rest_is at new) (omega (arith, length-drop at new))

-- a call put bytes at the rest's front and left what stood behind them: they are stored in the whole list
pub rest_back : (at : ℕ) (l front last : List ℕ) → at + length front ≤ length l
    → last ≡ front ++ drop (length front) (take (length l - at) (drop at l))
    → take at l ++ (last ++ drop (length l - at) (drop at l)) ≡ sets l at front
rest_back at l front last room e =
    let behind : last ++ drop (length l - at) (drop at l) ≡ last =
    ap (λ (m : List ℕ). last ++ m) (drop_of_length-le (drop at l) {i = length l - at} (omega (arith, length-drop at l))) ∙ append-nil last in
    let rest : last ≡ front ++ drop (at + length front) l =
    e ∙ ap (λ (m : List ℕ). front ++ drop (length front) m) (rest_is at l) ∙ ap (λ (m : List ℕ). front ++ m) (drop-drop (length front) at l) in
    ap (λ (m : List ℕ). take at l ++ m) (behind ∙ rest) ∙ sym (append_assoc (take at l) front (drop (at + length front) l)) ∙ sym (sets-eq front l at room)

-- the same as bytes written, n of them, into a list that kept its length
pub rest_wrote : (at n : ℕ) (front new old last : List ℕ) → length front ≡ n → length new ≡ length old → at + n ≤ length old
    → last ≡ front ++ drop n (take (length new - at) (drop at new))
    → Wrote new at front (take at new ++ (last ++ drop (length new - at) (drop at new))) (at + n)
rest_wrote at n front new old last long e room filled = record {
  ends = ap (λ (k : ℕ). at + k) (sym long);
  list = rest_back at new front last (omega arith) (rw long filled);
}
