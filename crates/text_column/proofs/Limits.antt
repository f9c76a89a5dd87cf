-- Opening within a program's limits, from what opening itself found.
--     over_bytes                    more than 65,536 bytes: 16, whatever they are
--     over_rows, over_blocks        16 for a column of more than 1,048,576 rows, and in place of 11
--     kept_column, kept_refusal     else what opening found
--     here_opened, here_bounds      what a program opens was opened, with room for 2048 blocks; its maximum has 64 bits
-- Assumes nothing.
use Rattle.std.specs.Prelude.{Option, Ok, Err}
use Prim.Native.Nat.{ℕ, ◌+◌, ◌*◌, ◌^◌, ◌≤◌, ◌<◌}
use mathlib.Core.Path.{◌≡◌, sym, ap, ◌∙◌}
use mathlib.Core.Bool.{Bool, true, false}
use mathlib.Core.List.{List, []}
use native.Mathlib.Nat.{mul_comm}
use native.Mathlib.Omega.{arith}
use borrow.Author.Tests.{le-leb, lt-leb, eq-eqb, ne_eqb}
use lib.Dec.{leb, eqb}
use lib.ListN.{length}
use Rattle.format.specs.declared.Column.{Column}
use Rattle.format.specs.declared.Refusal.{Refusal}
use Rattle.format.specs.declared.Refusal.TheVariants.{OverLimit}
use Rattle.format.specs.Listing.{too_many, opened_here}
use Rattle.format.specs.Opening.{Loaded, opened, column_in}
use Rattle.format.specs.Outcome.{Outcome, Outcome.value, Outcome.refusal, pick}
use Rattle.format.specs.Refusals.{paper, answered_by}
use Rattle.format.proofs.Laid.{opened_laid}
use Rattle.format.proofs.Outcomes.{by_demand, by_step, not_value, value_same}

-- ---- the bytes

pub over_bytes : (s : List ℕ) → 65536 < length s → answered_by (Err OverLimit) ≡ column_in (opened_here s)
unfolding opened_here
over_bytes s h = rw (lt-leb (length s) 65536 h)

few_bytes : (s : List ℕ) → length s ≤ 65536 → opened_here s ≡ too_many (opened s 2048)
unfolding opened_here
few_bytes s h = simp (le-leb (length s) 65536 h)

-- ---- the rows

module _ (s : List ℕ) (small : length s ≤ 65536) where
  module _ (c : Column) (p : Option ℕ) (found : answered_by (Ok (c, p)) ≡ column_in (opened s 2048)) where
    pub over_rows : 1048576 < c.rows → answered_by (Err OverLimit) ≡ column_in (opened_here s)
    over_rows many = rw (few_bytes s small) (go (opened s 2048) found)
      where
        go : (o : Outcome Loaded) → answered_by (Ok (c, p)) ≡ column_in o → answered_by (Err OverLimit) ≡ column_in (too_many o)
        go (value l) f =
            let more : 1048576 < l.column.rows = rw (ap (λ (a : Column × (Option ℕ)). a.0) (value_same f)) at many in
            rw (lt-leb l.column.rows 1048576 more)
        go (refusal number also) f = absurd (not_value (sym f))

    pub kept_column : c.rows ≤ 1048576 → answered_by (Ok (c, p)) ≡ column_in (opened_here s)
    kept_column few = rw (few_bytes s small) (go (opened s 2048) found)
      where
        go : (o : Outcome Loaded) → answered_by (Ok (c, p)) ≡ column_in o → answered_by (Ok (c, p)) ≡ column_in (too_many o)
        go (value l) f =
            let less : l.column.rows ≤ 1048576 = rw (ap (λ (a : Column × (Option ℕ)). a.0) (value_same f)) at few in
            rw (le-leb l.column.rows 1048576 less) f
        go (refusal number also) f = absurd (not_value (sym f))

  module _ (x : Refusal) (found : answered_by (Err x) ≡ column_in (opened s 2048)) where
    pub over_blocks : (paper x).0 ≡ 11 → answered_by (Err OverLimit) ≡ column_in (opened_here s)
    over_blocks eleven = rw (few_bytes s small) (go (opened s 2048) found)
      where
        go : (o : Outcome Loaded) → answered_by (Err x) ≡ column_in o → answered_by (Err OverLimit) ≡ column_in (too_many o)
        go (value l) f = absurd (not_value f)
        go (refusal number also) f =
            let same : number ≡ 11 = cc f in
            rw (eq-eqb number 11 same)

    pub kept_refusal : ((paper x).0 ≡ 11 → ⊥) → answered_by (Err x) ≡ column_in (opened_here s)
    kept_refusal other = rw (few_bytes s small) (go (opened s 2048) found)
      where
        go : (o : Outcome Loaded) → answered_by (Err x) ≡ column_in o → answered_by (Err x) ≡ column_in (too_many o)
        go (value l) f = absurd (not_value f)
        go (refusal number also) f =
            let same : (paper x).0 ≡ number = cc f in
            rw (ne_eqb number 11 (λ e. other (same ∙ e))) f

-- ---- what a program opens

pub here_opened : (s : List ℕ) (o : Loaded) → opened_here s ≡ value o → opened s 2048 ≡ value o
unfolding opened_here
here_opened s o e = by_demand (leb (length s) 65536) 16 [] (too_many (opened s 2048)) e (λ small found. within (opened s 2048) found)
  where
    kept : (test : Bool) (number : ℕ) (also : List ℕ) → pick test (refusal 16 []) (refusal number also) ≡ value o → ⊥
    kept true number also e = not_value e
    kept false number also e = not_value e

    within : (found : Outcome Loaded) → too_many found ≡ value o → found ≡ value o
    within (value p) e = by_demand (leb p.column.rows 1048576) 16 [] (value p) e (λ few same. same)
    within (refusal number also) e = absurd (kept (eqb number 11) number also e)

-- its maximum has 64 bits
pub here_bounds : (s : List ℕ) (c : Column) (p : Option ℕ) → column_in (opened_here s) ≡ value (c, p) → c.minimum + c.gcd * c.count < 2 ^ 64
here_bounds s c p e =
    by_step (opened_here s) (λ (o : Loaded). value (o.column, o.longer)) e λ (o : Loaded) found same.
    let is : o.column ≡ c = ap (λ (a : Column × (Option ℕ)). a.0) (value_same same) in
    let laid = opened_laid s 2048 o (here_opened s o found) in
    let bounds : c.minimum + c.count * c.gcd < 2 ^ 64 = rw is at laid.head.bounds in
    omega (arith, mul_comm c.gcd c.count)
