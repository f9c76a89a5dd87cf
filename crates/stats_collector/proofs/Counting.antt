-- A walk over a list of stored numbers.
--     starts, more    before the second number; one number more, whose distance joins the gcd
--     empty, ends     no numbers, and the end of some: their statistics
-- Assumes nothing.
use Prim.Native.Nat.{ℕ, ◌+◌, ◌≤◌, ◌<◌, min, max}
use mathlib.Core.Path.{◌≡◌, refl, sym, ap, ◌∙◌}
use mathlib.Core.List.{List, [], ◌∷◌}
use native.Mathlib.Omega.{arith}
use lib.ListN.{length, get_or}
use Rattle.format.proofs.Folds.{fold_step, fold_end, reduce_start}
use Rattle.format.specs.Stats.{fold_from, reduce, gcd, distance, stats_of}
use Rattle.stats_collector.specs.declared.Seen.{Seen}
use Rattle.stats_collector.specs.Rests.{Rest}

-- the first number is seen before the walk
pub starts : (vs : List ℕ) (first g : ℕ) → first ≡ get_or vs 0 0 → g ≡ 0 → 0 < length vs → Rest vs first g (record { lo = first; hi = first; next = 1 })
starts vs first g is none h =
    rw (is, none) (record { inside = h; low = reduce_start min vs h; high = reduce_start max vs h; common = refl })

-- one number more
pub more : {vs : List ℕ} {first g h v : ℕ} {seen next : Seen} → Rest vs first g seen → seen.next < length vs → v ≡ get_or vs seen.next 0
    → h ≡ gcd (distance v first) g → (next.lo ≡ min seen.lo v) × (next.hi ≡ max seen.hi v) × (next.next ≡ seen.next + 1) → Rest vs first h next
more {vs} {first} {g} {h} {v} {seen} {next} rest inside is joined (low, high, further) =
    record {
      inside = omega (arith, further);
      low = rw (low, further, is) (sym (fold_step min seen.lo vs seen.next inside) ∙ rest.low);
      high = rw (high, further, is) (sym (fold_step max seen.hi vs seen.next inside) ∙ rest.high);
      common = rw (joined, further, is) (sym (fold_step (λ (d w : ℕ). gcd (distance w first) d) g vs seen.next inside) ∙ rest.common);
    }

-- no numbers
pub empty : (vs : List ℕ) → length vs ≡ 0 → record { minimum = 0; maximum = 0; gcd = 1; rows = 0 } ≡ stats_of vs
unfolding stats_of reduce fold_from
empty [] h = refl
empty (v ∷ vs) h = absurd (omega arith)

-- the end of the numbers
pub ends : {vs : List ℕ} {first g m rows : ℕ} {seen : Seen} → Rest vs first g seen → rows ≡ length vs → rows ≤ seen.next → m ≡ max g 1
    → record { minimum = seen.lo; maximum = seen.hi; gcd = m; rows = rows } ≡ stats_of vs
unfolding stats_of
ends {vs} {first} {g} {m} {rows} {seen} rest count past e =
    let h : length vs ≤ seen.next = omega arith in
    let low = sym (fold_end min seen.lo vs seen.next h) ∙ rest.low in
    let high = sym (fold_end max seen.hi vs seen.next h) ∙ rest.high in
    let common = e ∙ ap (λ (d : ℕ). max d 1) (sym (fold_end (λ (d w : ℕ). gcd (distance w first) d) g vs seen.next h) ∙ rest.common) in
    λ j. record { minimum = low j; maximum = high j; gcd = common j; rows = count j }
