-- A differing byte names its rows: what changes where two byte strings with the same fields differ.
--     byte_bits                   a byte that agrees has bits that agree
--     blame_alike, blame          a row that no differing byte names answers the same; one whose bits differ answers otherwise, unless both answers are 14
--     blame_one, blame_none       one byte that differs names every row whose bits differ; bytes behind the area change no answer
-- Assumes nothing.
use Rattle.std.specs.Prelude.{Option, Some, None}
use Prim.Native.Nat.{ℕ, ◌+◌, ◌*◌, ◌/◌, ◌%◌, ◌≤◌, ◌<◌}
use mathlib.Core.Path.{◌≡◌, sym, ap, ◌∙◌, subst}
use mathlib.Core.Logic.{◌⊎◌, inl, inr, ⊎_elim}
use mathlib.Core.List.{List}
use native.Mathlib.Omega.{arith}
use lib.ListN.{length, drop, get_or}
use lib.Seq.{get_or-take, get_or-drop}
use Rattle.format.specs.declared.Block.{Block}
use Rattle.format.specs.Outcome.{Outcome.value}
use Rattle.format.specs.Packing.{rows_bits, bits_of, bit_at}
use Rattle.format.specs.Opening.{Loaded, opened}
use Rattle.format.specs.Windows.{whole, in_window}
use Rattle.format.specs.Parts.{owners_at}
use Rattle.format.specs.Demands.{Owns, SameBits, Differ, answered}
use Rattle.format.specs.Blame.{Named, Untouched, Blames, Blame, BlameOne, BlameNone}
use Rattle.format.proofs.Lists.{below_or}
use Rattle.format.proofs.Bits.{rows_bits_at}
use Rattle.format.proofs.Laid.{opened-whole}
use Rattle.format.proofs.Elsewhere.{FieldsAlike, opened_same, same_alike}
use Rattle.format.proofs.Owning.{all_owned}
use Rattle.format.proofs.Demand3.{rows_inside, rows_told}

-- ---- bits of a byte

-- bit m of byte i
bit_in : (s : List ℕ) (i m : ℕ) → i < length s → m < 8 → bit_at s (i * 8 + m) ≡ get_or (bits_of 8 (get_or s i 0)) m 0
unfolding bit_at
bit_in s i m h few =
    sym (get_or-drop (i * 8) (rows_bits 8 s) m 0) ∙ sym (get_or-take 8 (drop (i * 8) (rows_bits 8 s)) m 0 few)
    ∙ ap (λ (l : List ℕ). get_or l m 0) (rows_bits_at 8 s i h)

pub byte_bits : (s t : List ℕ) (k : ℕ) → k < 8 * length s → length s ≡ length t → get_or s (k / 8) 0 ≡ get_or t (k / 8) 0 → bit_at s k ≡ bit_at t k
byte_bits s t k h len same =
    let i = k / 8 in
    let m = k % 8 in
    let here : i * 8 + m ≡ k = omega arith in
    subst (λ (n : ℕ). bit_at s n ≡ bit_at t n) here
    (bit_in s i m (omega arith) (omega arith) ∙ ap (λ (b : ℕ). get_or (bits_of 8 b) m 0) same ∙ sym (bit_in t i m (omega arith) (omega arith)))

-- ---- a row's bits

module _ (s t : List ℕ) (room : ℕ) (o : Loaded) (e : opened s room ≡ value o) (len : length s ≡ length t) (r : ℕ) (h : r < o.column.rows) where
  -- a row's own bits agree where the bytes that hold them do
  bytes_agree : ((k : ℕ) → Owns o r k → get_or s (k / 8) 0 ≡ get_or t (k / 8) 0) → SameBits o s t r
  bytes_agree same k own =
      let inside = rows_inside s room o e r k h own in
      byte_bits s t k (omega (arith, inside.1, inside.2)) len (same k own)

  -- the byte that holds such a bit names the row
  names : (k : ℕ) → Owns o r k → Named (owners_at o.column o.table (k / 8)) r
  names k own = (all_owned s room o e (k / 8)).all r h (k, omega arith, omega arith, own)

-- ---- what changes

pub blame_alike : (s t : List ℕ) (table other : List Block) (o p : Loaded) → opened s (length table) ≡ value o → opened t (length other) ≡ value p → FieldsAlike s t o
    → Blames s t table other o p
blame_alike s t table other o p so tp f =
    let told = rows_told s t table other o p so tp f.long (opened_same s t (length table) (length other) o p so tp f) in
    -- both are seen whole
    let here : (r : ℕ) → r ≡ 0 + r = (λ (r : ℕ). omega arith) in
    let left : in_window o (whole o) ≡ o = opened-whole s (length table) o so in
    let right : in_window p (whole o) ≡ p = ap (λ (q : Loaded). in_window q (whole o)) (sym told.same) ∙ left ∙ told.same in
    let agree : (r : ℕ) → r < o.column.rows → SameBits o s t r → answered o table s r ≡ answered p other t r =
    (λ (r : ℕ) (h : r < o.column.rows) (bits : SameBits o s t r).
    ap (λ (q : Loaded). answered q table s r) (sym left) ∙ told.agree (whole o) (omega arith) r h (subst (SameBits o s t) (here r) bits) ∙ ap (λ (q : Loaded). answered q other t r) right) in
    record {
      same = told.same;
      untouched = λ (r : ℕ) (h : r < o.column.rows) (same : Untouched o s t r).
          agree r h (bytes_agree s t (length table) o so f.long r h
          (λ (k : ℕ) (own : Owns o r k). same (k / 8) (names s t (length table) o so f.long r h k own)));
      agree = agree;
      differ = λ (r : ℕ) (h : r < o.column.rows) (bits : SameBits o s t r → ⊥).
          subst (λ (q : Loaded). Differ r (answered q table s r) (answered p other t r)) left
          (subst (λ (q : Loaded). Differ r (answered (in_window o (whole o)) table s r) (answered q other t r)) right
          (told.differ (whole o) (omega arith) r h (λ same. bits (subst (SameBits o s t) (sym (here r)) same))));
    }

pub blame : Blame
blame s t table other o p so tp f = blame_alike s t table other o p so tp (same_alike f)

-- a row is named or not
named-or : (a : Option (ℕ × ℕ)) (r : ℕ) → Named a r ⊎ (Named a r → ⊥)
named-or (Some (first, last)) r =
    ⊎_elim
    (λ (before : r < first). inr (λ name. omega (arith, name.0)))
    (λ (low : first ≤ r).
    ⊎_elim
    (λ (behind : last < r). inr (λ name. omega (arith, name.1)))
    (λ (high : r ≤ last). inl (low, high))
    (below_or last r))
    (below_or r first)
named-or None r = inr (λ name. name)

pub blame_one : BlameOne
blame_one s t room o e len i only r h differs =
    ⊎_elim
    (λ name. name)
    (λ (other : Named (owners_at o.column o.table i) r → ⊥).
    absurd (differs (bytes_agree s t room o e len r h (λ (k : ℕ) (own : Owns o r k).
    only (k / 8) (λ (here : k / 8 ≡ i). other (subst (λ (j : ℕ). Named (owners_at o.column o.table j) r) here (names s t room o e len r h k own)))))))
    (named-or (owners_at o.column o.table i) r)

pub blame_none : BlameNone
blame_none s t table other o p so tp f area r h =
    (blame s t table other o p so tp f).agree r h (bytes_agree s t (length table) o so f.long r h (λ (k : ℕ) (own : Owns o r k).
    area (k / 8) (omega (arith, (rows_inside s (length table) o so r k h own).1))))
