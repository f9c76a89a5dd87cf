-- A list of values of a kind, lent as words.
--     stored-length, stored_at     one stored number for each word
--     stored_is, stored_there      a word that is read as the number that it is stored as
--     stored-fits, stored-words    each has 64 bits
--     stored-numbers               the words of a column of numbers are themselves
--     stored-shown                 the part that a window shows
-- Assumes nothing.
use mathlib.Core.Path.{◌≡◌, refl, sym, ap, ◌∙◌}
use mathlib.Core.List.{List, [], ◌∷◌}
use Prim.Native.Nat.{ℕ, ◌^◌, ◌<◌}
use lib.Dec.{ltb}
use lib.ListN.{length, take, drop, get_or, length-map}
use Rattle.format.specs.declared.Kind.{Kind}
use Rattle.format.specs.declared.Window.{Window}
use Rattle.format.specs.declared.Kind.TheVariants.{U64, I64, Date, Bool as Flag, F64}
use Rattle.format.specs.Word.{AllBelow}
use Rattle.format.specs.Typed.{stored_in, stored_as, signed_bits}
use Rattle.format.specs.Demands.{shown}
use Rattle.format.proofs.Lists.{map_at, take-map, drop-map}
use Rattle.format.proofs.Mappings.{signed_fits, bits_in, flag_fits, float_fits}

pub stored-length : (kind : Kind) (xs : List ℕ) → length (stored_as kind xs) ≡ length xs
stored-length kind xs = length-map xs (stored_in kind)

pub stored_at : (kind : Kind) (xs : List ℕ) (i : ℕ) → i < length xs → get_or (stored_as kind xs) i 0 ≡ stored_in kind (get_or xs i 0)
stored_at kind xs i h = map_at (stored_in kind) xs i h

-- a word that is read as the number that it is stored as
module _ (kind : Kind) (xs : List ℕ) (i : ℕ) (h : i < length xs) where
  pub stored_is : {v : ℕ} → v ≡ stored_in kind (get_or xs i 0) → v ≡ get_or (stored_as kind xs) i 0
  stored_is e = e ∙ sym (stored_at kind xs i h)

  pub stored_there : i < length (stored_as kind xs)
  stored_there = rw (stored-length kind xs) h

-- a stored number has 64 bits
pub stored-fits : (kind : Kind) (x : ℕ) → x < 2 ^ 64 → stored_in kind x < 2 ^ 64
unfolding stored_in
stored-fits U64 x h = h
stored-fits I64 x h = signed_fits (signed_bits x) (bits_in x h)
stored-fits Date x h = signed_fits (signed_bits x) (bits_in x h)
stored-fits Flag x h = flag_fits (ltb 0 x)
stored-fits F64 x h = float_fits x h

pub stored-words : (kind : Kind) (xs : List ℕ) → AllBelow (2 ^ 64) xs → AllBelow (2 ^ 64) (stored_as kind xs)
stored-words kind xs each i h =
    let inside = rw (stored-length kind xs) at h in
    rw (stored_at kind xs i inside) (stored-fits kind (get_or xs i 0) (each i inside))

-- numbers are stored as they are
pub stored-numbers : (xs : List ℕ) → stored_as U64 xs ≡ xs
unfolding stored_in
stored-numbers [] = refl
stored-numbers (x ∷ xs) = ap (λ (ys : List ℕ). x ∷ ys) (stored-numbers xs)

-- the stored numbers of what a window shows are what it shows of the stored numbers
pub stored-shown : (kind : Kind) (w : Window) (xs : List ℕ) → stored_as kind (shown w xs) ≡ shown w (stored_as kind xs)
stored-shown kind w xs = take-map (stored_in kind) w.rows (drop w.first xs) ∙ ap (take w.rows) (drop-map (stored_in kind) w.first xs)
