-- A loop that copies a list into another from an entry on.
--     CopiedTo, copy_more, copy_ends
-- Assumes nothing.
use Prim.Native.Nat.{ℕ, suc, ◌+◌, ◌<◌, ◌≤◌}
use mathlib.Core.Path.{◌≡◌, sym, ap, ◌∙◌}
use mathlib.Core.List.{List}
use native.Mathlib.Nat.{add_assoc}
use native.Mathlib.Numerals.{add-one}
use lib.ListN.{length, drop, get_or, set, drop_of_length-le}
use lib.Seq.{sets, drop-cons}

-- the first i values are copied
pub record CopiedTo (values before : List ℕ) (at : ℕ) (list : List ℕ) (i : ℕ) : Type 0 where
  pub rest : sets list (at + i) (drop i values) ≡ sets before at values

pub copy_more : {values before : List ℕ} {at : ℕ} {list : List ℕ} {i : ℕ} → CopiedTo values before at list i → i < length values → CopiedTo values before at (set list (at + i) (get_or values i 0)) (i + 1)
copy_more {values} {before} {at} {list} {i} f h = record {
  rest =
      ap (λ (k : ℕ). sets (set list (at + i) (get_or values i 0)) k (drop (i + 1) values)) (sym (add_assoc at i 1) ∙ add-one (at + i))
      ∙ ap (λ (k : ℕ). sets (set list (at + i) (get_or values i 0)) (suc (at + i)) (drop k values)) (add-one i)
      ∙ ap (sets list (at + i)) (sym (drop-cons values i 0 h)) ∙ f.rest;
}

pub copy_ends : {values before : List ℕ} {at : ℕ} {list : List ℕ} {i : ℕ} → CopiedTo values before at list i → length values ≤ i → list ≡ sets before at values
copy_ends {values} {before} {at} {list} {i} f h = ap (sets list (at + i)) (sym (drop_of_length-le values h)) ∙ f.rest
