-- Stretches of parts that are listed one behind the other are all parts of the column, none left out and none twice.
--     stretch_then        what is listed from a place on, and the parts from the place behind it on, are those from the first place on
--     stretch_first       from the first place on they are all
--     stretch_short       a list that is not filled is the last
-- Assumes nothing.
use Rattle.std.specs.Prelude.{Option, Some, None}
use Prim.Native.Nat.{ℕ, zero, suc, ◌/◌, ◌<◌}
use mathlib.Core.Path.{◌≡◌, refl, sym, ap, ◌∙◌}
use mathlib.Core.List.{List, [], ◌∷◌, ◌++◌}
use native.Mathlib.Omega.{arith}
use lib.ListN.{length, take}
use Rattle.format.specs.declared.Column.{Column}
use Rattle.format.specs.declared.Part.{Part}
use Rattle.format.specs.Parts.{parts_of}
use Rattle.byte_part.specs.declared.Cursor.{Cursor}
use Rattle.byte_part.specs.Walk.{walked}
use Rattle.c_parts.specs.Listed.{parts_at, behind, listed}
use Rattle.c_parts.proofs.Filling.{place_next, parts_more, parts_none}

module _ (s : List ℕ) (col : Column) where
  -- some parts from a place on, and those from the place behind them on
  joined : Cursor → List Part → List Part
  joined c ps = ps ++ parts_at s col (behind c ps)

  taken : (k : ℕ) (c : Cursor) → joined c (take k (parts_at s col c)) ≡ parts_at s col c
  unfolding behind joined
  taken zero c = refl
  taken (suc k) c = go (walked s col c) refl (λ (next : Cursor). taken k next)
    where
      go : (w : Option (Part × Cursor)) → walked s col c ≡ w → ((next : Cursor) → joined next (take k (parts_at s col next)) ≡ parts_at s col next) → joined c (take (suc k) (parts_at s col c)) ≡ parts_at s col c
      go (Some (p, next)) e later =
          let rest = take k (parts_at s col next) in
          ap (λ (ps : List Part). joined c (take (suc k) ps)) (parts_more s col c p next e)
          ∙ ap (λ (d : Cursor). p ∷ (rest ++ parts_at s col (behind d rest))) (place_next s col c p next e)
          ∙ ap (λ (ps : List Part). p ∷ ps) (later next) ∙ sym (parts_more s col c p next e)
      go None e later = ap (λ (ps : List Part). joined c (take (suc k) ps)) (parts_none s col c e)

  pub stretch_then : (c : Cursor) (room : ℕ) → (listed s col c room).parts ++ parts_at s col (listed s col c room).place ≡ parts_at s col c
  unfolding joined
  stretch_then c room = taken (room / 5) c

  pub stretch_first : parts_at s col (record { number = 0; at = 0 }) ≡ parts_of s col
  stretch_first = refl

  -- fewer than were asked for are all
  few : (k : ℕ) (ps : List Part) → length (take k ps) < k → take k ps ≡ ps
  few zero ps h = absurd (omega arith)
  few (suc k) [] h = refl
  few (suc k) (p ∷ ps) h = ap (λ (qs : List Part). p ∷ qs) (few k ps (omega arith))

  pub stretch_short : (c : Cursor) (room : ℕ) → length (listed s col c room).parts < room / 5 → (listed s col c room).parts ≡ parts_at s col c
  stretch_short c room h = few (room / 5) (parts_at s col c) h
