-- How an explanation begins, from what opening found and the line that was written.
--     begun_refused, begun_column      with the line of a refusal; with a column
-- Assumes nothing.
use Rattle.format.specs.Refusals.{paper, answered_by}
use Rattle.std.specs.Prelude.{Option, Result, Ok, Err}
use Prim.Native.Nat.{ℕ}
use mathlib.Core.Path.{◌≡◌, refl, sym, ap, ◌∙◌}
use mathlib.Core.List.{List}
use native.Mathlib.Nat.{zero-add}
use native.Mathlib.Omega.{arith}
use Rattle.io.specs.Counts.{IsPrefixLen}
use Rattle.format.specs.declared.Column.{Column}
use Rattle.format.specs.declared.Refusal.{Refusal}
use Rattle.format.specs.Listing.{ascii, named_line, opened_here}
use Rattle.format.specs.Opening.{column_in}
use Rattle.format.specs.Outcome.{Wrote}
use Rattle.text.specs.Refused.{refused_by}
use Rattle.text_column.proofs.Answered.{found_column, found_refusal}
use Rattle.text.proofs.Texts.{counts}
use Rattle.text_explain.specs.Chunk.{BegunAs}

module _ (s : List ℕ) {r : Result (Column × Option ℕ) Refusal} {old : List ℕ} (answer : answered_by r ≡ column_in (opened_here s)) where
  pub begun_refused : {x : Refusal} {number n : ℕ} {new : List ℕ} → r ≡ Err x → number ≡ (paper x).0 → Wrote old 0 (named_line (ascii "refused ") number) new n → IsPrefixLen n new
      → BegunAs (opened_here s) (Err n) old new
  begun_refused {x} {number} is by wrote shown =
      let told : number ≡ refused_by (answered_by r) = by ∙ sym (ap (λ (o : Result (Column × Option ℕ) Refusal). refused_by (answered_by o)) is) in
      rw ((found_refusal s answer is).1, ← told)
      (record { answer = ap Err (wrote.ends ∙ zero-add _); line = wrote.list; counts = shown })

  pub begun_column : {c : Column} {a : Option ℕ} → r ≡ Ok (c, a) → BegunAs (opened_here s) (Ok c) old old
  begun_column is = let e = found_column s answer is in
      rw e.opened
      (record { answer = ap Ok (sym e.column); line = refl; counts = counts 0 old (omega arith) })
