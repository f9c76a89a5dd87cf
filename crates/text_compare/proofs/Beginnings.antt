-- How a comparison begins, from what both openings found and the line that was written.
--     begun_on                     with the right side, where the left one opened
--     begun_owned                  both columns are columns of their bytes, with passes over their blocks
-- Assumes nothing.
use Rattle.format.specs.Refusals.{answered_by}
use Rattle.std.specs.Prelude.{Option, Result, Ok}
use Prim.Native.Nat.{ℕ}
use mathlib.Core.Path.{◌≡◌, refl, sym, ap, subst}
use mathlib.Core.List.{List}
use native.Mathlib.Omega.{arith}
use Rattle.format.specs.declared.Column.{Column}
use Rattle.format.specs.declared.Refusal.{Refusal}
use Rattle.format.specs.Listing.{opened_here}
use Rattle.format.specs.Opening.{Loaded, column_in}
use Rattle.format.specs.Outcome.{Outcome, Outcome.value, Outcome.refusal}
use Rattle.text_column.specs.declared.own.Own.{Own}
use Rattle.text_column.specs.Own.{own_first, Owned}
use Rattle.text_column.proofs.Answered.{found_column}
use Rattle.text_column.proofs.Owns.{owned_first}
use Rattle.text_column.proofs.Rows.{opens_shows}
use Rattle.text_compare.specs.Beginning.{begun, BegunAs, BegunOn}

module _ (s t : List ℕ) {r : Result (Column × Option ℕ) Refusal} {old : List ℕ} where
  module _ (answer : answered_by r ≡ column_in (opened_here s)) where
    pub begun_on : {c : Column} {a : Option ℕ} {b : Result (Own × Own) ℕ} {new : List ℕ} → r ≡ Ok (c, a) → BegunOn s t c (opened_here t) b old new
        → BegunAs s t (opened_here s) (opened_here t) b old new
    begun_on is right = let e = found_column s answer is in
        rw e.opened (right e.found e.column)

-- the columns that it begins with are those of their bytes
pub begun_owned : {s t : List ℕ} {own its : Own} {old new : List ℕ} → BegunAs s t (opened_here s) (opened_here t) (Ok (own, its)) old new
    → Owned s own.column own.pass × Owned t its.column its.pass
begun_owned {s} {t} {own} {its} f = go (opened_here s) (opened_here t) refl refl f.answer
  where
    owned : (s : List ℕ) (l : Loaded) (x : Own) → opened_here s ≡ value l → x ≡ own_first s l.column → Owned s x.column x.pass
    owned s l x e same = subst (λ (x : Own). Owned s x.column x.pass) (sym same) (owned_first (opens_shows (record { found = l; opened = e; column = refl })))

    go : (o p : Outcome Loaded) → opened_here s ≡ o → opened_here t ≡ p → Ok (own, its) ≡ begun s t o p → Owned s own.column own.pass × Owned t its.column its.pass
    go (value u) (value w) e f is =
        let both : ◌≡◌ {A = Own × Own} (own, its) (own_first s u.column, own_first t w.column) = cc in
        (owned s u own e (ap (λ (x : Own × Own). x.0) both), owned t w its f (ap (λ (x : Own × Own). x.1) both))
    go (value u) (refusal number also) e f is = absurd (let z : ◌≡◌ {A = ℕ} 0 1 = cc in omega arith)
    go (refusal number also) p e f is = absurd (let z : ◌≡◌ {A = ℕ} 0 1 = cc in omega arith)
