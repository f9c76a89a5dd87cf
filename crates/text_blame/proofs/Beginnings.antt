-- How a blame begins, from what both openings found and the line that was written.
--     begun_only, begun_both, begun_lengths      with the only line; with both columns; with the line of unequal lengths
--     begun_left, begun_right                    with the line of a side's refusal
--     starts_opens                those are columns that were opened of their bytes
--     starts-left, starts_right, starts_lengths, starts_field, starts_both         how it begins, by the tests
-- Assumes nothing.
use Rattle.std.specs.Prelude.{Option, Some, None, Result, Ok, Err}
use Prim.Native.Nat.{ℕ}
use mathlib.Core.Path.{◌≡◌, refl, sym, ap, ◌∙◌}
use mathlib.Core.Bool.{Bool, true, false}
use mathlib.Core.List.{List}
use native.Mathlib.Nat.{zero-add}
use native.Mathlib.Omega.{arith}
use lib.Dec.{eqb}
use lib.ListN.{length}
use borrow.Author.Tests.{ne_eqb}
use Rattle.io.specs.Counts.{IsPrefixLen}
use Rattle.format.specs.declared.Column.{Column}
use Rattle.format.specs.declared.PartName.{PartName}
use Rattle.format.specs.declared.Refusal.{Refusal}
use Rattle.format.specs.Listing.{ascii, named_line, opened_here}
use Rattle.format.specs.Opening.{Loaded, column_in}
use Rattle.format.specs.Outcome.{Outcome, Outcome.value, Outcome.refusal, pick, Wrote}
use Rattle.format.specs.Refusals.{paper, answered_by}
use Rattle.byte_part.specs.Bytes.{part_of}
use Rattle.text.specs.Refused.{refused_by}
use Rattle.text_column.specs.Own.{Opens}
use Rattle.text_column.proofs.Answered.{found_refusal}
use Rattle.text.proofs.Texts.{counts}
use Rattle.text_blame_bytes.specs.Fields.{first_field}
use Rattle.text_blame_lines.specs.Bytes.{lengths_line, field_line}
use Rattle.text_blame.specs.Beginning.{Start, Start.both, Start.only, starts_with, starts, BegunAs}

pub begun_only : {b : Start} {l old new : List ℕ} {n : ℕ} → b ≡ only l → Wrote old 0 l new n → IsPrefixLen n new → BegunAs b (Err n) old new
begun_only {b} {l} {old} {new} {n} is wrote shown =
    let long : n ≡ length l = wrote.ends ∙ zero-add _ in
    rw is (record { answer = ap Err long; line = wrote.list; counts = shown })

pub begun_both : {b : Start} {c d : Column} {old : List ℕ} → b ≡ both c d → BegunAs b (Ok (c, d)) old old
begun_both {b} {c} {d} {old} is = rw is (record { answer = refl; line = refl; counts = counts 0 old (omega arith) })

-- the columns that it begins with
pub starts_opens : (s t : List ℕ) (c d : Column) → starts (opened_here s) (opened_here t) s t ≡ both c d → Opens s c × Opens t d
starts_opens s t c d = go (opened_here s) (opened_here t) refl refl
  where
    by_test : (u w : Column) (b : Bool) (field : Option (ℕ × PartName)) (l : List ℕ) → pick b (starts_with u w field) (only l) ≡ both c d → (u ≡ c) × (w ≡ d)
    by_test u w true None l e = (cc, cc)
    by_test u w true (Some (i, name)) l e = absurd (let z : ◌≡◌ {A = ℕ} 0 1 = cc in omega arith)
    by_test u w false field l e = absurd (let z : ◌≡◌ {A = ℕ} 0 1 = cc in omega arith)

    go : (o p : Outcome Loaded) → opened_here s ≡ o → opened_here t ≡ p → starts o p s t ≡ both c d → Opens s c × Opens t d
    go (value u) (value w) e f is =
        let same = by_test u.column w.column (eqb (length s) (length t)) (first_field (part_of s u.column) s t 0 (length s)) (lengths_line (length s) (length t)) is in
        (record { found = u; opened = e; column = same.0 }, record { found = w; opened = f; column = same.1 })
    go (value u) (refusal number also) e f is = absurd (let z : ◌≡◌ {A = ℕ} 0 1 = cc in omega arith)
    go (refusal number also) p e f is = absurd (let z : ◌≡◌ {A = ℕ} 0 1 = cc in omega arith)

-- ---- by the tests

module _ (s t : List ℕ) where
  pub starts-left : {number : ℕ} {also : List ℕ} → opened_here s ≡ refusal number also → starts (opened_here s) (opened_here t) s t ≡ only (named_line (ascii "left refused ") number)
  starts-left r = rw r

  module _ {c : Column} (u : Opens s c) where
    pub starts_right : {number : ℕ} {also : List ℕ} → opened_here t ≡ refusal number also → starts (opened_here s) (opened_here t) s t ≡ only (named_line (ascii "right refused ") number)
    starts_right r = rw (u.opened, r)

    module _ {d : Column} (w : Opens t d) where
      pub starts_lengths : eqb (length s) (length t) ≡ false → starts (opened_here s) (opened_here t) s t ≡ only (lengths_line (length s) (length t))
      starts_lengths e = rw (u.opened, w.opened, e)

      pub starts_field : {i : ℕ} {name : PartName} → eqb (length s) (length t) ≡ true → first_field (part_of s c) s t 0 (length s) ≡ Some (i, name) → starts (opened_here s) (opened_here t) s t ≡ only (field_line i name)
      starts_field e f = rw (u.opened, w.opened, e, u.column, f)

      pub starts_both : eqb (length s) (length t) ≡ true → first_field (part_of s c) s t 0 (length s) ≡ None → starts (opened_here s) (opened_here t) s t ≡ both c d
      starts_both e f = rw (u.opened, w.opened, e, u.column, w.column, f)

-- unequal lengths, with the line that was written
pub begun_lengths : (s t : List ℕ) {c d : Column} {old new : List ℕ} {n : ℕ} → Opens s c × Opens t d → (length s ≡ length t → ⊥)
    → Wrote old 0 (lengths_line (length s) (length t)) new n → IsPrefixLen n new → BegunAs (starts (opened_here s) (opened_here t) s t) (Err n) old new
begun_lengths s t opens apart wrote shown = begun_only (starts_lengths s t opens.0 opens.1 (ne_eqb _ _ apart)) wrote shown

-- the line of a side's refusal, by its number
told : {r : Result (Column × Option ℕ) Refusal} {x : Refusal} {number : ℕ} → r ≡ Err x → number ≡ (paper x).0 → number ≡ refused_by (answered_by r)
told is by = by ∙ sym (ap (λ (o : Result (Column × Option ℕ) Refusal). refused_by (answered_by o)) is)

module _ (s t : List ℕ) {r : Result (Column × Option ℕ) Refusal} {x : Refusal} {number n : ℕ} {old new : List ℕ} (is : r ≡ Err x) (by : number ≡ (paper x).0) (shown : IsPrefixLen n new) where
  pub begun_left : answered_by r ≡ column_in (opened_here s) → Wrote old 0 (named_line (ascii "left refused ") number) new n
      → BegunAs (starts (opened_here s) (opened_here t) s t) (Err n) old new
  begun_left answer wrote = begun_only (starts-left s t (found_refusal s answer is).1) (rw (told is by) at wrote) shown

  pub begun_right : {c : Column} → Opens s c → answered_by r ≡ column_in (opened_here t) → Wrote old 0 (named_line (ascii "right refused ") number) new n
      → BegunAs (starts (opened_here s) (opened_here t) s t) (Err n) old new
  begun_right u answer wrote = begun_only (starts_right s t u (found_refusal t answer is).1) (rw (told is by) at wrote) shown
