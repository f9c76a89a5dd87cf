-- The values of a file, eight bytes each.
--     Putting, putting_more, putting_ends      a loop that puts them into a list
--     took_many, took_cut, took_all            taking them, by the file's length
--     taken_values, taken_none                 what the answer says of the file
-- Assumes nothing.
use Rattle.std.specs.Prelude.{Result, Ok, Err}
use Prim.Native.Nat.{ℕ, zero, suc, ◌+◌, ◌-◌, ◌*◌, ◌/◌, ◌%◌, ◌≤◌, ◌<◌}
use mathlib.Core.Path.{◌≡◌, refl, sym, ap, ◌∙◌}
use mathlib.Core.List.{List, []}
use native.Mathlib.Numerals.{add-one}
use native.Mathlib.Omega.{arith}
use borrow.Author.Tests.{eq-eqb, ne_eqb, le-leb, lt-leb, leb-true}
use lib.Dec.{leb, eqb}
use lib.ListN.{length, take, drop, set, length-set}
use lib.Seq.{sets, length-sets, drop-drop}
use Rattle.format.specs.declared.Refusal.{Refusal}
use Rattle.format.specs.declared.Refusal.TheVariants.{OverLimit, Unfit}
use Rattle.format.specs.Outcome.{Outcome, Outcome.value, Outcome.refusal, ◌>>◌, demand, how_many, stored}
use Rattle.format.specs.Refusals.{paper, numbered, answered_by}
use Rattle.format.specs.Packing.{bytes_num, unpack}
use Rattle.format.specs.Word.{AllBelow}
use Rattle.format.proofs.Gathering.{bytes_num_below, unpack-word}
use Rattle.format.proofs.Lists.{all_drop}
use Rattle.format.proofs.Outcomes.{by_demand, not_value, value_same}
use Rattle.format.proofs.Stores.{front_of}
use Rattle.text_check.specs.Given.{words, values_in, TakenAs}

-- ---- the values

-- number i of 64 bits is the one that its eight bytes stand for
word_at : (file : List ℕ) (i : ℕ) → AllBelow 256 file → unpack 64 file i ≡ bytes_num (take 8 (drop (8 * i) file))
word_at file i bytes =
    let at : i * 64 / 8 ≡ 8 * i = omega arith in
    let whole : i * 64 % 8 ≡ 0 = omega arith in
    let below = bytes_num_below 8 (drop (8 * i) file) (all_drop (8 * i) file bytes) in
    unpack-word 64 file i bytes refl ∙ rw (at, whole) (omega arith)

-- the first i of n values were put: putting the others leaves what all of them leave
pub record Putting (file : List ℕ) (n : ℕ) (before : List ℕ) (i : ℕ) (values : List ℕ) : Type 0 where
  pub inside : i ≤ n
  pub long : length values ≡ length before
  pub rest : sets values i (words (n - i) (drop (8 * i) file)) ≡ sets before 0 (words n file)

module _ {file : List ℕ} {n : ℕ} {before : List ℕ} {i : ℕ} {values : List ℕ} (p : Putting file n before i values) where
  pub putting_more : {v : ℕ} → AllBelow 256 file → i < n → v ≡ unpack 64 file i → Putting file n before (i + 1) (set values i v)
  unfolding words
  putting_more {v} bytes more is =
      let one : n - i ≡ suc (n - suc i) = omega arith in
      let here : v ≡ bytes_num (take 8 (drop (8 * i) file)) = is ∙ word_at file i bytes in
      let next : 8 * (i + 1) ≡ 8 * i + 8 = omega arith in
      record {
        inside = omega arith;
        long = length-set values i v ∙ p.long;
        rest = rw (next, add-one i, here) (sym (rw (one, drop-drop)) ∙ p.rest);
      }

  pub putting_ends : n ≤ i → values ≡ sets before 0 (words n file)
  unfolding words
  putting_ends over =
      let none : n - i ≡ 0 = omega (arith, p.inside) in
      (rw none at p.rest)

-- ---- taking them

-- so many were asked for
words_many : (n : ℕ) (s : List ℕ) → n ≡ length (words n s)
unfolding words
words_many zero s = refl
words_many (suc n) s = ap suc (words_many n (drop 8 s))

module _ (file : List ℕ) where
  pub took_many : {l : List ℕ} → 524288 < length file → TakenAs file (Err OverLimit) l l
  unfolding values_in
  took_many many = let over = lt-leb (length file) 524288 many in
      record { answer = rw over; list = rw over }

  module _ (few : length file ≤ 524288) where
    pub took_cut : {l : List ℕ} → (length file % 8 ≡ 0 → ⊥) → TakenAs file (Err Unfit) l l
    unfolding values_in
    took_cut cut =
        let within = le-leb (length file) 524288 few in
        let no = ne_eqb (length file % 8) 0 cut in
        record { answer = rw (within, no); list = rw (within, no) }

    pub took_all : {before after : List ℕ} → length file % 8 ≡ 0 → after ≡ sets before 0 (words (length file / 8) file) → TakenAs file (Ok (length file / 8)) before after
    unfolding values_in
    took_all whole puts =
        let within = le-leb (length file) 524288 few in
        let is = eq-eqb (length file % 8) 0 whole in
        record { answer = rw (within, is) (ap value (words_many (length file / 8) file)); list = rw (within, is) puts }

-- values that a file has are few
values_few : (file vs : List ℕ) → values_in file ≡ value vs → length vs ≤ 65536
unfolding values_in
values_few file vs e =
    by_demand (leb (length file) 524288) 16 [] (demand (eqb (length file % 8) 0) 13 [] >> value (words (length file / 8) file)) e
    (λ few next. by_demand (eqb (length file % 8) 0) 13 [] (value (words (length file / 8) file)) next
    (λ whole same. omega (arith, leb-true (length file) 524288 few, ap length (value_same same), words_many (length file / 8) file)))

module _ (file : List ℕ) {r : Result ℕ Refusal} {before after : List ℕ} (t : TakenAs file r before after) where
  pub taken_values : (n : ℕ) → r ≡ Ok n → length after ≡ 65536 → (values_in file ≡ value (take n after)) × (n ≤ 65536)
  taken_values n is room = go (values_in file) refl (sym (ap answered_by is) ∙ t.answer) t.list
    where
      go : (o : Outcome (List ℕ)) → values_in file ≡ o → value n ≡ how_many o → after ≡ stored o before → (values_in file ≡ value (take n after)) × (n ≤ 65536)
      go (value vs) e f g =
          let few = values_few file vs e in
          let same : n ≡ length vs = value_same f in
          (e ∙ ap value (sym (front_of before after vs n same g (omega (arith, ap length g, length-sets before 0 vs)))), omega arith)
      go (refusal number also) e f g = absurd (not_value (sym f))

  pub taken_none : (q : Refusal) → r ≡ Err q → values_in file ≡ numbered q
  taken_none q is = go (values_in file) (sym (ap answered_by is) ∙ t.answer)
    where
      go : (o : Outcome (List ℕ)) → numbered {A = ℕ} q ≡ how_many o → o ≡ numbered q
      go (value vs) f = absurd (not_value f)
      go (refusal number also) f =
          let a : number ≡ (paper q).0 = cc in
          let b : also ≡ (paper q).1 = cc in
          rw (a, b)
