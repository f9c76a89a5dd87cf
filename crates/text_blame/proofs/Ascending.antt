-- Rows come in ascending order: what a byte names is not before what an earlier byte names, so two bytes share a row at most.
--     named_ascend      of any column that opens
--     listed_ascend     of the columns that a blame lists
-- Assumes nothing.
use Prim.Native.Nat.{ℕ, ◌≤◌, ◌<◌}
use mathlib.Core.Path.{◌≡◌, subst}
use mathlib.Core.Bool.{Bool, true, false}
use mathlib.Core.Logic.{⊎_elim}
use mathlib.Core.List.{List, []}
use native.Mathlib.Omega.{arith}
use Rattle.format.specs.declared.Block.{Block}
use Rattle.format.specs.declared.Column.{Column}
use Rattle.format.specs.Opening.{Loaded, opened}
use Rattle.format.specs.Outcome.{Outcome.value, ◌>>◌, demand}
use Rattle.format.specs.Parts.{owners_at}
use Rattle.format.specs.Blame.{Named}
use Rattle.format.proofs.Laid.{opened_laid}
use Rattle.format.proofs.Lists.{below_or}
use Rattle.format.proofs.Owning.{all_owned}
use Rattle.byte_part.specs.Bytes.{fits_at}
use Rattle.byte_owner.specs.Bytes.{rows_of}
use Rattle.text_column.specs.Own.{Opens}
use Rattle.text_column.proofs.Limits.{here_opened}
use Rattle.text_blame_bytes.specs.Owners.{owners_in, owners_found}

pub named_ascend : (s : List ℕ) (room : ℕ) (o : Loaded) → opened s room ≡ value o → (i j r q : ℕ) → i < j
    → Named (owners_at o.column o.table i) r → Named (owners_at o.column o.table j) q → r ≤ q
named_ascend s room o e i j r q h named later =
    let early = (all_owned s room o e i).named r named in
    let late = (all_owned s room o e j).named q later in
    ⊎_elim
    (λ (before : q < r). absurd (omega (arith, (opened_laid s room o e).rows.order q r before early.0, early.1.2, early.1.3.0, late.1.1, late.1.3.1)))
    (λ (behind : r ≤ q). behind)
    (below_or q r)

-- what was found is what is named
found-named : (s : List ℕ) (col : Column) (t : List Block) (i r : ℕ) → Named (owners_in (rows_of s col t i)) r → Named (owners_at col t i) r
unfolding rows_of
found-named s col t i r = go (fits_at s col i)
  where
    go : (b : Bool) → Named (owners_in (demand b 13 [] >> value (owners_at col t i))) r → Named (owners_at col t i) r
    go true named = named
    go false named = absurd named

pub listed_ascend : {s : List ℕ} {c : Column} → Opens s c → (i j r q : ℕ) → i < j → Named (owners_found c s i) r → Named (owners_found c s j) q → r ≤ q
listed_ascend {s} {c} e i j r q h =
    subst (λ (col : Column). Named (owners_found col s i) r → Named (owners_found col s j) q → r ≤ q) e.column
    (rw e.opened (λ named later.
    let o = e.found in
    named_ascend s 2048 o (here_opened s o e.opened) i j r q h (found-named s o.column o.table i r named) (found-named s o.column o.table j q later)))
