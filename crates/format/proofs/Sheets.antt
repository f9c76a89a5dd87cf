-- What the sheets accept.
--     under_two                          what sheet 2 accepts, sheet 1 accepts, with the same answer and table
--     refused_two                        what sheet 1 accepts and sheet 2 does not is refused 17
--     by_unit                            a step that gives nothing
--     unclaimed_none, overfull_none, overfull-packed, clean_column
--                                        what a column without offending bytes has
-- Assumes nothing.
use Rattle.std.specs.Prelude.{Option, Some, None}
use mathlib.Core.Path.{◌≡◌, refl, ap, ◌∙◌}
use mathlib.Core.Logic.{◌⊎◌, inl, inr, ⊎_elim}
use mathlib.Core.List.{List, [], ◌∷◌, ◌++◌}
use Prim.Native.Nat.{ℕ, zero, suc, ◌+◌, ◌-◌, ◌*◌, ◌%◌, ◌^◌, ◌≤◌, ◌<◌, min}
use native.Mathlib.Nat.{mul_comm, div-eq_of_lt}
use native.Mathlib.Omega.{arith}
use lib.ListN.{length, take, drop, get_or, length-take, length-drop, get_or-append}
use lib.Seq.{get_or-drop, drop-drop}
use borrow.Author.Tests.{lt-ltb, le-ltb}
use Rattle.format.specs.declared.Column.{Column}
use Rattle.format.specs.declared.Fields.{Fields}
use Rattle.format.specs.declared.Head.{Head}
use Rattle.format.specs.Outcome.{Outcome, Outcome.value, Outcome.refusal, ◌>>◌}
use Rattle.format.specs.Word.{bytes_for}
use Rattle.format.specs.Packing.{num_of, rows_bits, bytes_of, packed}
use Rattle.format.specs.Bodies.{block_count}
use Rattle.format.specs.Opening.{Loaded, Table, read_fields, read_blocks, opened}
use Rattle.format.specs.Sheets.{unclaimed, overfull, Ending, last_fields, ending, offending, clean, strict, under_sheet, opened_under}
use Rattle.format.proofs.Lists.{below_or, all_take, all_drop}
use Rattle.format.proofs.Outcomes.{not_value, by_step}
use Rattle.format.proofs.Openings.{OpensBitpacked, OpensLinear, OpensBlockwise, footer_end, footer_start, by_opening}
use Rattle.format.proofs.Bits.{num_of_below, rows_bits_bits, length-rows_bits}
use Rattle.format.proofs.Packing.{length-packed}

-- ---- the two sheets

-- a step that gives nothing, before a value
pub by_unit : {B : Type 0} {b : B} {C : Type 0} (o : Outcome (Unit {0})) (k : Outcome B) → (o >> k) ≡ value b → (o ≡ value tt → k ≡ value b → C) → C
by_unit (value tt) k e next = next refl e
by_unit (refusal n also) k e next = absurd (not_value e)

-- what sheet 2 accepts, sheet 1 accepts, with the same answer and table
pub under_two : (s : List ℕ) (room : ℕ) (o : Loaded) → opened_under 2 s room ≡ value o → opened_under 1 s room ≡ value o
unfolding under_sheet
under_two s room o e =
    by_step (opened s room) _ e λ p is e.
    by_unit (strict s p.column p.longer) (value p) e λ met same.
    is ∙ same

-- where the blocks of a footer were read, the last one's fields are found
last_there : (k : ℕ) (s : List ℕ) (at start rows bits : ℕ) (t : Table) → read_blocks k s at start rows ≡ value t → (f : ℕ × ℕ) × (last_fields k s bits at ≡ value f)
unfolding read_blocks last_fields
last_there zero s at start rows bits t e = ((bits, at), refl)
last_there (suc k) s at start rows bits t e =
    by_step (read_fields s at) _ e λ g at_g e.
    by_step (read_blocks k s g.next (start + bytes_for (g.bits * min rows 512)) (rows - 512)) _ e λ u at_u e.
    let r = last_there k s g.next (start + bytes_for (g.bits * min rows 512)) (rows - 512) g.bits u at_u in
    (r.0, rw at_g r.1)

-- so of what opens the end is known
ending_there : (s : List ℕ) (room : ℕ) (o : Loaded) → opened s room ≡ value o → (e : Ending) × (ending o.column.codec o.column.count o.column.rows s ≡ value e)
unfolding ending
ending_there s room =
    by_opening (λ (o : Loaded). (e : Ending) × (ending o.column.codec o.column.count o.column.rows s ≡ value e)) s room
    (λ (h : Head) (f : OpensBitpacked s h). (_, refl))
    (λ (h : Head) (g : Fields) (f : OpensLinear s h g). (_, refl))
    (λ (h : Head) (t : Table) (f : OpensBlockwise s h room t).
    let r = last_there (block_count h.rows) (take (footer_end s) s) (footer_start s) 0 h.rows 0 t f.blocks in
    (record { bits = r.0.0; resumes = footer_start s; later = unclaimed r.0.1 (footer_end s) }, rw r.1))

-- what sheet 1 accepts and sheet 2 does not is refused 17
pub refused_two : (s : List ℕ) (room : ℕ) (o : Loaded) → opened s room ≡ value o
    → (opened_under 2 s room ≡ value o) ⊎ ((offset : ℕ) × (opened_under 2 s room ≡ refusal 17 (offset ∷ [])))
unfolding under_sheet strict
refused_two s room o is =
    let e = ending_there s room o is in
    go e.0 e.1 (offending s o.column o.longer e.0) refl
  where
    go : (e : Ending) → ending o.column.codec o.column.count o.column.rows s ≡ value e → (found : Option ℕ) → offending s o.column o.longer e ≡ found
        → (opened_under 2 s room ≡ value o) ⊎ ((offset : ℕ) × (opened_under 2 s room ≡ refusal 17 (offset ∷ [])))
    go e known None found = inl (rw (is, known, found))
    go e known (Some offset) found = inr (offset, rw (is, known, found))

-- ---- columns without offending bytes

pub unclaimed_none : (from to : ℕ) → to ≤ from → unclaimed from to ≡ None
unclaimed_none from to h = rw (le-ltb from to h)

pub overfull_none : (s : List ℕ) (last bits : ℕ) → (0 < bits → get_or s last 0 < 2 ^ bits) → overfull s last bits ≡ None
overfull_none s last bits h =
    ⊎_elim
    (λ (no : bits < 1). rw (le-ltb 0 bits (omega arith)))
    (λ (more : 1 ≤ bits). rw (lt-ltb 0 bits more, div-eq_of_lt (h more)))
    (below_or bits 1)

pub clean_column : (s : List ℕ) (col : Column) (e : Ending) → overfull s (col.start + col.size - 1) (e.bits * col.rows % 8) ≡ None
    → unclaimed (col.start + col.size) e.resumes ≡ None → e.later ≡ None → clean (offending s col None e) ≡ value tt
clean_column s col e full gap rest = rw (full, gap, rest)

-- ---- the last byte of packed numbers

-- byte i of some bits
bytes_of_at : (n i : ℕ) (bs : List ℕ) → i < n → get_or (bytes_of n bs) i 0 ≡ num_of (take 8 (drop (8 * i) bs))
unfolding bytes_of
bytes_of_at zero i bs h = absurd (omega arith)
bytes_of_at (suc n) zero bs h = refl
bytes_of_at (suc n) (suc i) bs h =
    let place : 8 + 8 * i ≡ 8 * suc i = omega arith in
    bytes_of_at n i (drop 8 bs) (omega arith) ∙ ap (λ (l : List ℕ). num_of (take 8 l)) (drop-drop (8 * i) 8 bs ∙ ap (λ (k : ℕ). drop k bs) place)

-- the bits above the rows' in the last byte are 0
packed_last : (w : ℕ) (xs : List ℕ) → 0 < w * length xs % 8 → get_or (packed w xs) (bytes_for (w * length xs) - 1) 0 < 2 ^ (w * length xs % 8)
unfolding packed
packed_last w xs filled =
    let used = w * length xs in
    let i = bytes_for used - 1 in
    let bits = take 8 (drop (8 * i) (rows_bits w xs)) in
    let all : length (rows_bits w xs) ≡ used = length-rows_bits w xs ∙ mul_comm (length xs) w in
    let long : length bits ≡ used % 8 = omega (arith, length-take 8 (drop (8 * i) (rows_bits w xs)), length-drop (8 * i) (rows_bits w xs)) in
    rw (bytes_of_at (bytes_for used) i (rows_bits w xs) (omega arith), ← long)
    (num_of_below bits (all_take 8 (drop (8 * i) (rows_bits w xs)) (all_drop (8 * i) (rows_bits w xs) (rows_bits_bits w xs))))

-- so packed numbers in some bytes, whatever follows, leave nothing in their last byte
pub overfull-packed : (s : List ℕ) (start w : ℕ) (xs more : List ℕ) → drop start s ≡ packed w xs ++ more
    → overfull s (start + bytes_for (w * length xs) - 1) (w * length xs % 8) ≡ None
overfull-packed s start w xs more e =
    overfull_none s (start + bytes_for (w * length xs) - 1) (w * length xs % 8) λ filled.
    let used = w * length xs in
    let i = bytes_for used - 1 in
    let place : start + bytes_for used - 1 ≡ start + i = omega arith in
    let inside : i < length (packed w xs) = omega (arith, length-packed w xs) in
    rw (place, ← get_or-drop start s i 0, e, get_or-append (packed w xs) more 0 i inside) (packed_last w xs filled)
