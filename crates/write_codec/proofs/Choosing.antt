-- The walks over the codec list.
--     smaller_none, smaller_assoc, smaller_same, smaller_beaten      the smaller of two, in a row
--     unknown_found                                                  the search for an unknown byte
--     known_each, third                                              where none is found, each byte names a codec; the third one
--     walked-starts, walked_same, walked_more                        one listed codec further
--     Choosing, choosing_starts, choosing_next, choosing_ends        the walk for the least
--     names_best, alone, names_only                                  the codec of the least, and of a list that holds Blockwise alone
--     size_best                                                      the size of a codec with its size
-- Assumes nothing.
use Rattle.std.specs.Prelude.{Option, Some, None, MatchOption, option_map}
use Prim.Native.Nat.{ℕ, zero, suc, ◌+◌, ◌≤◌, ◌<◌}
use mathlib.Core.Path.{◌≡◌, refl, sym, ap, ◌∙◌}
use mathlib.Core.Bool.{Bool, true, false}
use mathlib.Core.Logic.{◌⊎◌, inl, inr, ⊎_elim}
use mathlib.Core.List.{List, [], ◌∷◌}
use native.Mathlib.Nat.{not-suc-le-zero, le_of_suc-le-suc}
use native.Mathlib.Numerals.{add-one}
use native.Mathlib.Omega.{arith}
use borrow.Author.Tests.{leb-true, leb-false, le-leb, lt-leb}
use lib.Dec.{leb}
use lib.ListN.{length, get_or, drop, drop_of_length-le}
use lib.Seq.{drop-cons}
use Rattle.format.specs.declared.Codec.{Codec}
use Rattle.format.specs.declared.Codec.TheVariants.{Blockwise}
use Rattle.format.specs.declared.ColumnStats.{ColumnStats}
use Rattle.format.specs.Outcome.{Outcome.value, Outcome.refusal, pick}
use Rattle.format.specs.Writing.{Sized, sized, size_of, smaller, chosen, known, codec_of}
use Rattle.format.proofs.Outcomes.{by_demand}
use Rattle.write_codec.specs.declared.choice.Best.{Best}
use Rattle.write_codec.specs.declared.choice.Met.{Met}
use Rattle.write_codec.specs.declared.choice.Walk.{Walk}
use Rattle.write_codec.specs.Choice.{place_meaning, best_meaning, Apt, Stands, Names, sized_by, met_in, marking, Walked}

-- the list from i on, before its end
next : (cs : List ℕ) (i : ℕ) → i < length cs → drop i cs ≡ get_or cs i 0 ∷ drop (i + 1) cs
next cs i h = rw (add-one, drop-cons cs i 0)

-- ---- the smaller of two, in a row

pub smaller_none : (a : Option Sized) → smaller a None ≡ a
smaller_none None = refl
smaller_none (Some a) = refl

-- three, by the tests of the first two and of the last two
of_three : (a b c : Sized) (ab bc : Bool) → leb a.size b.size ≡ ab → leb b.size c.size ≡ bc
    → smaller (smaller (Some a) (Some b)) (Some c) ≡ smaller (Some a) (smaller (Some b) (Some c))
of_three a b c true true p q =
    let ac : a.size ≤ c.size = omega (arith, leb-true a.size b.size p, leb-true b.size c.size q) in
    simp (p, q, le-leb _ _ ac)
of_three a b c true false p q = simp (p, q)
of_three a b c false true p q = simp (p, q)
of_three a b c false false p q =
    let ac : c.size < a.size = omega (arith, leb-false a.size b.size p, leb-false b.size c.size q) in
    simp (p, q, lt-leb _ _ ac)

-- the first least of three does not depend on which two are compared first
pub smaller_assoc : (a b c : Option Sized) → smaller (smaller a b) c ≡ smaller a (smaller b c)
smaller_assoc None b c = refl
smaller_assoc (Some a) None c = refl
smaller_assoc (Some a) (Some b) None = smaller_none (smaller (Some a) (Some b))
smaller_assoc (Some a) (Some b) (Some c) = of_three a b c (leb a.size b.size) (leb b.size c.size) refl refl

-- of two that are the same
pub smaller_same : (a : Option Sized) → smaller a a ≡ a
smaller_same None = refl
smaller_same (Some a) = either (leb a.size a.size)
  where
    either : (t : Bool) → pick t (Some a) (Some a) ≡ Some a
    either true = refl
    either false = refl

-- what does not beat one does not beat the smaller of that and another
pub smaller_beaten : (b s o : Option Sized) → smaller b o ≡ b → smaller (smaller b s) o ≡ smaller b s
smaller_beaten None s o e = rw e (smaller_none s)
smaller_beaten (Some b) None o e = e
smaller_beaten (Some b) (Some s) None e = smaller_none (smaller (Some b) (Some s))
smaller_beaten (Some b) (Some s) (Some o) e = by_tests (leb b.size s.size) (leb b.size o.size) refl refl e
  where
    by_tests : (t u : Bool) → leb b.size s.size ≡ t → leb b.size o.size ≡ u → pick u (Some b) (Some o) ≡ Some b
        → smaller (pick t (Some b) (Some s)) (Some o) ≡ pick t (Some b) (Some s)
    by_tests true u p q e = rw q e
    by_tests false true p q e =
        let so : s.size ≤ o.size = omega (arith, leb-false b.size s.size p, leb-true b.size o.size q) in
        rw (le-leb s.size o.size so)
    by_tests false false p q e =
        let is : o ≡ b = cc in
        let so : s.size ≤ o.size = omega (arith, leb-false b.size s.size p, ap (λ (x : Sized). x.size) is) in
        rw (le-leb s.size o.size so)

-- ---- the search for an unknown byte

-- from a place k on, the first one is refused
known_first : (k : ℕ) (cs : List ℕ) (i : ℕ) {n : ℕ} → n ≡ k + i → i < length cs → 2 < get_or cs i 0 → ((j : ℕ) → j < i → get_or cs j 0 ≤ 2) → refusal 2 (n ∷ []) ≡ known k cs
unfolding known
known_first k [] i e h t f = absurd (not-suc-le-zero h)
known_first k (c ∷ cs) zero {n} e h t f =
    let here : n ≡ k = omega arith in
    rw (lt-leb c 2 t, here)
known_first k (c ∷ cs) (suc i) e h t f = rw (le-leb c 2 (f 0 (omega arith))) (known_first (suc k) cs i (omega arith) (le_of_suc-le-suc h) t (λ j l. f (suc j) (omega arith)))

-- there is none
known_none : (k : ℕ) (cs : List ℕ) → ((j : ℕ) → j < length cs → get_or cs j 0 ≤ 2) → value tt ≡ known k cs
unfolding known
known_none k [] f = refl
known_none k (c ∷ cs) f = rw (le-leb c 2 (f 0 (omega arith))) (known_none (suc k) cs (λ j l. f (suc j) (omega arith)))

pub unknown_found : (cs : List ℕ) (p : Option ℕ)
    → MatchOption p ((j : ℕ) → j < length cs → get_or cs j 0 ≤ 2) (λ i. (i < length cs) × (2 < get_or cs i 0) × ((j : ℕ) → j < i → get_or cs j 0 ≤ 2))
    → place_meaning p ≡ known 0 cs
unknown_found cs None f = known_none 0 cs f
unknown_found cs (Some i) f = known_first 0 cs i (omega arith) f.0 f.1 f.2

-- where none is found, each byte names a codec
pub known_each : (i : ℕ) (cs : List ℕ) → known i cs ≡ value tt → (j : ℕ) → j < length cs → get_or cs j 0 ≤ 2
unfolding known
known_each i [] e j h = absurd (not-suc-le-zero h)
known_each i (c ∷ cs) e zero h = by_demand (leb c 2) 2 (i ∷ []) (known (suc i) cs) e (λ t f. leb-true c 2 t)
known_each i (c ∷ cs) e (suc j) h = by_demand (leb c 2) 2 (i ∷ []) (known (suc i) cs) e (λ t f. known_each (suc i) cs f j (le_of_suc-le-suc h))

-- the third codec
pub third : (code : ℕ) → (code ≡ 0 → ⊥) → (code ≡ 1 → ⊥) → code ≤ 2 → code ≡ 2
third zero a b h = absurd (a refl)
third (suc zero) a b h = absurd (b refl)
third (suc (suc zero)) a b h = refl
third (suc (suc (suc k))) a b h = absurd (omega arith)

-- ---- one listed codec further

-- what is met with one codec more was met before, or is that codec
marked_or : (m : Met) (code c : ℕ) → code ≤ 2 → met_in (marking m code) c ≡ true → (met_in m c ≡ true) ⊎ (c ≡ code)
marked_or m zero zero h e = inr refl
marked_or m zero (suc zero) h e = inl e
marked_or m zero (suc (suc zero)) h e = inl e
marked_or m zero (suc (suc (suc c))) h e = inl e
marked_or m (suc zero) zero h e = inl e
marked_or m (suc zero) (suc zero) h e = inr refl
marked_or m (suc zero) (suc (suc zero)) h e = inl e
marked_or m (suc zero) (suc (suc (suc c))) h e = inl e
marked_or m (suc (suc zero)) zero h e = inl e
marked_or m (suc (suc zero)) (suc zero) h e = inl e
marked_or m (suc (suc zero)) (suc (suc zero)) h e = inr refl
marked_or m (suc (suc zero)) (suc (suc (suc c))) h e = inl e
marked_or m (suc (suc (suc k))) c h e = absurd (omega arith)

module _ (s : ColumnStats) (vs : List ℕ) where
  -- before the first
  pub walked-starts : Walked s vs (record { best = None; met = record { bitpacked = false; linear = false; blockwise = false } })
  walked-starts = record { apt = tt; beats = none_met }
    where
      none_met : (c : ℕ) → met_in (record { bitpacked = false; linear = false; blockwise = false }) c ≡ true → smaller None (sized_by s vs c) ≡ None
      none_met zero e = cc
      none_met (suc zero) e = cc
      none_met (suc (suc zero)) e = cc
      none_met (suc (suc (suc c))) e = cc

  module _ {w : Walk} (walked : Walked s vs w) (code : ℕ) where
    -- one that was met before changes nothing
    pub walked_same : {t : Bool} → t ≡ met_in w.met code → t ≡ true → best_meaning w.best ≡ smaller (best_meaning w.best) (sized_by s vs code)
    walked_same is taken = sym (walked.beats code (sym is ∙ taken))

    -- another is compared, and met
    pub walked_more : {one better : Option Best} {more : Met} → code ≤ 2 → Stands vs (sized_by s vs code) one
        → best_meaning better ≡ smaller (best_meaning w.best) (best_meaning one) → ((xs : List ℕ) → Apt xs w.best → Apt xs one → Apt xs better)
        → more ≡ marking w.met code
        → Walked s vs (record { best = better; met = more }) × (best_meaning better ≡ smaller (best_meaning w.best) (sized_by s vs code))
    walked_more {one} {better} {more} h o compared keeps marks =
        let is : best_meaning better ≡ smaller (best_meaning w.best) (sized_by s vs code) = compared ∙ ap (smaller (best_meaning w.best)) o.means in
        (record { apt = keeps vs walked.apt o.apt; beats = beaten is }, is)
      where
        beaten : best_meaning better ≡ smaller (best_meaning w.best) (sized_by s vs code)
            → (c : ℕ) → met_in more c ≡ true → smaller (best_meaning better) (sized_by s vs c) ≡ best_meaning better
        beaten is c e =
            ⊎_elim
            (λ (before : met_in w.met c ≡ true). rw is (smaller_beaten (best_meaning w.best) (sized_by s vs code) (sized_by s vs c) (walked.beats c before)))
            (λ (now : c ≡ code).
            rw (now, is)
            (smaller_assoc (best_meaning w.best) (sized_by s vs code) (sized_by s vs code) ∙ ap (smaller (best_meaning w.best)) (smaller_same (sized_by s vs code))))
            (marked_or w.met code c h (rw marks at e))

-- ---- the walk for the least

-- the best so far, or what is less in the rest of the list, is the choice
pub record Choosing (s : ColumnStats) (vs cs : List ℕ) (w : Walk) (i : ℕ) : Type 0 where
  pub walked : Walked s vs w
  pub rest : smaller (best_meaning w.best) (chosen (λ c. size_of c s vs) (drop i cs)) ≡ chosen (λ c. size_of c s vs) cs

pub choosing_starts : (s : ColumnStats) (vs cs : List ℕ) → Choosing s vs cs (record { best = None; met = record { bitpacked = false; linear = false; blockwise = false } }) 0
choosing_starts s vs cs = record { walked = walked-starts s vs; rest = refl }

module _ {s : ColumnStats} {vs cs : List ℕ} {w : Walk} {i : ℕ} (f : Choosing s vs cs w i) where
  pub choosing_next : {v : Walk} → i < length cs → Walked s vs v × (best_meaning v.best ≡ smaller (best_meaning w.best) (sized_by s vs (get_or cs i 0)))
      → Choosing s vs cs v (i + 1)
  unfolding chosen
  choosing_next {v} h a =
      let size : ℕ → Option ℕ = λ c. size_of c s vs in
      record {
        walked = a.0;
        rest =
            rw a.1
            (smaller_assoc (best_meaning w.best) (sized_by s vs (get_or cs i 0)) (chosen size (drop (i + 1) cs))
            ∙ ap (λ (l : List ℕ). smaller (best_meaning w.best) (chosen size l)) (sym (next cs i h))
            ∙ f.rest);
      }

  pub choosing_ends : length cs ≤ i → Stands vs (chosen (λ c. size_of c s vs) cs) w.best
  unfolding chosen
  choosing_ends h =
      let size : ℕ → Option ℕ = λ c. size_of c s vs in
      record {
        means = sym (smaller_none (best_meaning w.best)) ∙ ap (λ (l : List ℕ). smaller (best_meaning w.best) (chosen size l)) (sym (drop_of_length-le cs h)) ∙ f.rest;
        apt = f.walked.apt;
      }

-- ---- the codec of a choice

names_mapped : (vs : List ℕ) (o : Option Sized) (b : Option Best) → Stands vs o b → Names vs (codec_of o) (option_map (λ (b : Best). b.codec) b)
names_mapped vs o None best = record { means = ap codec_of best.means; apt = tt }
names_mapped vs o (Some b) best = record { means = ap codec_of best.means; apt = best.apt }

pub names_best : {vs : List ℕ} {o : Option Sized} {b : Option Best} {c : Option Codec} → Stands vs o b → c ≡ option_map (λ (b : Best). b.codec) b → Names vs (codec_of o) c
names_best {vs} {o} {b} best is = rw is (names_mapped vs o b best)

-- Blockwise applies to any values
pub names_only : (s : ColumnStats) (vs cs : List ℕ) → cs ≡ 2 ∷ [] → Names vs (codec_of (chosen (λ c. size_of c s vs) cs)) (Some Blockwise)
unfolding chosen size_of
names_only s vs cs is = rw is (record { means = refl; apt = tt })

-- a list of one
pub alone : (cs : List ℕ) {c : ℕ} → length cs ≡ 1 → get_or cs 0 0 ≡ c → cs ≡ c ∷ []
alone [] one is = absurd (omega arith)
alone (d ∷ []) one is = ap (λ (e : ℕ). e ∷ []) is
alone (d ∷ e ∷ cs) one is = absurd (omega arith)

-- ---- the size of a codec

-- the size of a codec that has one
size_in : Option Sized → Option ℕ
size_in None = None
size_in (Some a) = Some a.size

size_in_lem : (code : ℕ) (o : Option ℕ) → size_in (sized code o) ≡ o
unfolding size_in
size_in_lem code None = refl
size_in_lem code (Some n) = refl

pub size_best : (s : ColumnStats) (vs : List ℕ) (code : ℕ) (b : Option Best) → Stands vs (sized_by s vs code) b → option_map (λ (b : Best). b.size) b ≡ size_of code s vs
unfolding size_in
size_best s vs code None best = ap size_in best.means ∙ size_in_lem code (size_of code s vs)
size_best s vs code (Some b) best = ap size_in best.means ∙ size_in_lem code (size_of code s vs)
