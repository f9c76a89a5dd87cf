-- What a blame lists meets the hypotheses of the theorem on differing bytes (format/proofs/Blame): where it begins with two columns, these have the same fields.
--     no_field                      where no field is told, a byte that differs is no field's
--     before_part, footer_part      a byte before the area is a field's; so is one of the footer, but for those left over
--     same_fields                   so the two columns have the same fields
--     Listed, listed_blames         and every row of theirs answers as the theorem says, with any tables that have a program's room
-- Assumes nothing.
use Rattle.std.specs.Prelude.{Option, Some, None}
use Prim.Native.Nat.{ℕ, ◌-◌, zero, suc, ◌+◌, ◌≤◌, ◌<◌}
use mathlib.Core.Path.{◌≡◌, refl, sym, ap, ◌∙◌, subst}
use mathlib.Core.Bool.{Bool, true, false}
use mathlib.Core.Logic.{◌⊎◌, inl, inr, ⊎_elim}
use mathlib.Core.List.{List, [], ◌∷◌, ◌++◌}
use native.Mathlib.Nat.{eq-or-lt_of_le}
use native.Mathlib.Omega.{arith}
use lib.Dec.{eqb}
use lib.ListN.{length, get_or, get_or-eq_default}
use borrow.Author.Tests.{lt-ltb, le-ltb, le-leb, eqb-true}
use Rattle.format.specs.declared.Block.{Block}
use Rattle.format.specs.declared.Codec.{Codec}
use Rattle.format.specs.declared.Codec.TheVariants.{Bitpacked, Linear, Blockwise}
use Rattle.format.specs.declared.Column.{Column}
use Rattle.format.specs.declared.Part.{Part}
use Rattle.format.specs.declared.PartName.{PartName}
use Rattle.format.specs.declared.PartName.TheVariants.{Area, Behind, Spare, FooterLength}
use Rattle.format.specs.Outcome.{Outcome, Outcome.value, Outcome.refusal, pick}
use Rattle.format.specs.Bodies.{block_count}
use Rattle.format.specs.Opening.{Loaded, opened}
use Rattle.format.specs.Listing.{opened_here}
use Rattle.format.specs.Parts.{names_before, block_names, names_footer, shape_of, behind_end, extent, part_here, part_end, parts_from, part_in, part_at}
use Rattle.format.specs.Blame.{Blames}
use Rattle.format.proofs.Lists.{below_or}
use Rattle.format.proofs.Openings.{opened_roomier}
use Rattle.format.proofs.Parts.{end_from, part_skip, Marks, opened_marks}
use Rattle.format.proofs.Blame.{blame_alike}
use Rattle.format.proofs.Elsewhere.{FieldsAlike}
use Rattle.byte_part.specs.Bytes.{part_of}
use Rattle.text_column.proofs.Limits.{here_opened}
use Rattle.text_blame_bytes.specs.Fields.{is_field, field_or, first_field}
use Rattle.text_blame_lines.specs.Bytes.{lengths_line}
use Rattle.text_blame.specs.Beginning.{Start.both, Start.only, starts_with, starts}

-- ---- where no field is told

later_none : (o : Outcome Part) (i : ℕ) (later : Option (ℕ × PartName)) → field_or o i later ≡ None → later ≡ None
later_none (refusal number also) i later e = e
later_none (value p) i later e = by (is_field (shape_of p.name)) e
  where
    by : (b : Bool) → pick b (Some (i, p.name)) later ≡ None → later ≡ None
    by true e = let z : ◌≡◌ {A = ℕ} 0 1 = cc in absurd (omega arith)
    by false e = e

told_field : (o : Outcome Part) (i : ℕ) (later : Option (ℕ × PartName)) (p : Part) → o ≡ value p → is_field (shape_of p.name) ≡ true → field_or o i later ≡ None → ⊥
told_field o i later p is field e =
    let f : ◌≡◌ {A = Option (ℕ × PartName)} (Some (i, p.name)) None = sym (rw (is, field)) ∙ e in
    let z : ◌≡◌ {A = ℕ} 0 1 = cc in
    omega arith

module _ (part : ℕ → Outcome Part) (s t : List ℕ) where
  pub no_field : (i n : ℕ) → first_field part s t i n ≡ None → (j : ℕ) → i ≤ j → j < i + n → (p : Part) → part j ≡ value p → is_field (shape_of p.name) ≡ true → get_or s j 0 ≡ get_or t j 0
  unfolding first_field
  no_field i zero e j low high p is field = absurd (omega arith)
  no_field i (suc n) e j low high p is field =
      ⊎_elim
      (λ (here : i ≡ j). first (eqb (get_or s i 0) (get_or t i 0)) refl e here)
      (λ (less : i < j). no_field (suc i) n (rest (eqb (get_or s i 0) (get_or t i 0)) e) j less (omega arith) p is field)
      (eq-or-lt_of_le low)
    where
      rest : (b : Bool) → pick b (first_field part s t (suc i) n) (field_or (part i) i (first_field part s t (suc i) n)) ≡ None → first_field part s t (suc i) n ≡ None
      rest true e = e
      rest false e = later_none (part i) i (first_field part s t (suc i) n) e

      first : (b : Bool) → eqb (get_or s i 0) (get_or t i 0) ≡ b → pick b (first_field part s t (suc i) n) (field_or (part i) i (first_field part s t (suc i) n)) ≡ None → i ≡ j
          → get_or s j 0 ≡ get_or t j 0
      first true test e here = subst (λ (k : ℕ). get_or s k 0 ≡ get_or t k 0) here (eqb-true (get_or s i 0) (get_or t i 0) test)
      first false test e here = absurd (told_field (part i) i (first_field part s t (suc i) n) p (ap part here ∙ is) field e)

-- ---- which parts are fields

-- all of some names are so
abbrev All : (PartName → Type 0) → List PartName → Type 0
All Q [] = Unit {0}
All Q (n ∷ ns) = Q n × All Q ns

abbrev pub IsField : PartName → Type 0
IsField n = is_field (shape_of n) ≡ true

before_all : (c : Codec) → All IsField (names_before c)
before_all Bitpacked = (refl, (refl, (refl, (refl, (refl, tt)))))
before_all (Linear l w) = (refl, (refl, (refl, (refl, (refl, (refl, (refl, (refl, tt))))))))
before_all Blockwise = (refl, (refl, (refl, (refl, (refl, tt)))))

blocks_all : (k n : ℕ) → All IsField (block_names k n)
unfolding block_names
blocks_all k zero = tt
blocks_all k (suc n) = (refl, (refl, (refl, blocks_all (suc k) n)))

-- ---- the part of a byte

module _ (s : List ℕ) (col : Column) where
  -- a byte that parts of some names hold is one of theirs
  found-named : (Q : PartName → Type 0) (at : ℕ) (ns ms : List PartName) (i : ℕ) → All Q ns → at ≤ i → i < end_from s col at ns
      → (p : Part) × (part_in (parts_from s col at (ns ++ ms)) i ≡ Some p) × Q p.name
  unfolding parts_from part_in end_from
  found-named Q at [] ms i all low high = absurd (omega arith)
  found-named Q at (n ∷ ns) ms i all low high =
      let p = part_here s col n at in
      ⊎_elim
      (λ (inside : i < part_end p). (p, rw (lt-ltb i (part_end p) inside), all.0))
      (λ (behind : part_end p ≤ i). rw (le-ltb i (part_end p) behind) (found-named Q (part_end p) ns ms i all.1 behind high))
      (below_or i (part_end p))

  module _ (m : Marks s col) where
    abbrev footer : List PartName
    footer = names_footer col.codec col.rows

    pub before_part : (i : ℕ) → i < col.start → (p : Part) × (part_at s col i ≡ Some p) × IsField p.name
    before_part i h = found-named IsField 0 (names_before col.codec) (Area ∷ Behind ∷ footer) i (before_all col.codec) (omega arith) (omega (arith, m.before))

    area_behind_lem : end_from s col col.start (Area ∷ Behind ∷ []) ≡ behind_end col.codec s
    unfolding end_from extent
    area_behind_lem = omega (arith, m.area, m.behind)

    -- from the footer on the parts before it are passed over
    from_footer : (i : ℕ) → behind_end col.codec s ≤ i → part_at s col i ≡ part_in (parts_from s col (behind_end col.codec s) footer) i
    from_footer i low =
        part_skip s col 0 (names_before col.codec) (Area ∷ Behind ∷ footer) i (omega (arith, m.before, m.area))
        ∙ ap (λ (k : ℕ). part_in (parts_from s col k (Area ∷ Behind ∷ footer)) i) m.before
        ∙ part_skip s col col.start (Area ∷ Behind ∷ []) footer i (omega (arith, area_behind_lem))
        ∙ ap (λ (k : ℕ). part_in (parts_from s col k footer) i) area_behind_lem

    -- the blocks' fields, and where they end
    abbrev blocks : List PartName
    blocks = block_names 0 (block_count col.rows)

    abbrev fields_end : ℕ
    fields_end = end_from s col (behind_end col.codec s) blocks

    -- what is left over ends before the footer's length, and that with the last byte
    last_four : (at i : ℕ) → at ≤ i → length s - 4 ≤ i → i < length s → (p : Part) × (part_in (parts_from s col at (Spare ∷ FooterLength ∷ [])) i ≡ Some p) × IsField p.name
    unfolding end_from extent
    last_four at i low late high =
        let past = end_from s col at (Spare ∷ []) in
        let q = found-named IsField past (FooterLength ∷ []) [] i (refl, tt) (omega arith) (omega arith) in
        (q.0, part_skip s col at (Spare ∷ []) (FooterLength ∷ []) i (omega arith) ∙ q.1, q.2)

    pub footer_part : (i : ℕ) → behind_end col.codec s ≤ i → i < length s → (i < fields_end) ⊎ (length s - 4 ≤ i)
        → (p : Part) × (part_at s col i ≡ Some p) × IsField p.name
    footer_part i low high where-is = go col.codec refl
      where
        go : (c : Codec) → col.codec ≡ c → (p : Part) × (part_at s col i ≡ Some p) × IsField p.name
        go Bitpacked e = absurd (omega (arith, rw e at low))
        go (Linear l w) e = absurd (omega (arith, rw e at low))
        go Blockwise e =
            let at = behind_end col.codec s in
            let here : part_at s col i ≡ part_in (parts_from s col at (blocks ++ (Spare ∷ FooterLength ∷ []))) i =
            from_footer i low ∙ ap (λ (c : Codec). part_in (parts_from s col at (names_footer c col.rows)) i) e in
            let behind : fields_end ≤ i → length s - 4 ≤ i → (p : Part) × (part_at s col i ≡ Some p) × IsField p.name =
            λ (past : fields_end ≤ i) (late : length s - 4 ≤ i).
            let q = last_four fields_end i past late high in
            (q.0, here ∙ part_skip s col at blocks (Spare ∷ FooterLength ∷ []) i past ∙ q.1, q.2) in
            let within : i < fields_end → (p : Part) × (part_at s col i ≡ Some p) × IsField p.name =
            λ (inside : i < fields_end).
            let q = found-named IsField at blocks (Spare ∷ FooterLength ∷ []) i (blocks_all 0 (block_count col.rows)) low inside in
            (q.0, here ∙ q.1, q.2) in
            ⊎_elim within (λ (late : length s - 4 ≤ i). ⊎_elim within (λ (past : fields_end ≤ i). behind past late) (below_or i fields_end)) where-is

    -- what is found for a byte is what is told
    told : (i : ℕ) (p : Part) → i < length s → part_at s col i ≡ Some p → part_of s col i ≡ value p
    unfolding part_of
    told i p h is = rw (le-leb (col.start + col.size) (length s) (omega (arith, m.area, m.behind)), lt-ltb i (length s) h, is)

-- ---- the same fields

pub same_fields : (s t : List ℕ) (room : ℕ) (o : Loaded) → opened s room ≡ value o → length s ≡ length t → first_field (part_of s o.column) s t 0 (length s) ≡ None → FieldsAlike s t o
same_fields s t room o e long none = record {
  long = long;
  before = λ i h. let q = before_part s o.column m i h in by_field i q.0 (omega (arith, m.area, m.behind)) q.1 q.2;
  blocks = λ i low high. in_footer i low (inl high);
  four = λ i low late. in_footer i low (inr late);
}
  where
    m : Marks s o.column
    m = opened_marks s room o e

    by_field : (i : ℕ) (p : Part) → i < length s → part_at s o.column i ≡ Some p → IsField p.name → get_or s i 0 ≡ get_or t i 0
    by_field i p h is field = no_field (part_of s o.column) s t 0 (length s) none i (omega arith) (omega arith) p (told s o.column m i p h is) field

    in_footer : (i : ℕ) → behind_end o.column.codec s ≤ i → (i < fields_end s o.column m) ⊎ (length s - 4 ≤ i) → get_or s i 0 ≡ get_or t i 0
    in_footer i low where-is =
        ⊎_elim
        (λ (inside : i < length s). let q = footer_part s o.column m i low inside where-is in by_field i q.0 inside q.1 q.2)
        (λ (past : length s ≤ i). get_or-eq_default s 0 past ∙ sym (get_or-eq_default t 0 (omega (arith, long, past))))
        (below_or i (length s))

-- ---- what a blame begins with

-- two columns that a program opened, and the theorem of them
pub record Listed (s t : List ℕ) (c d : Column) (table other : List Block) : Type 0 where
  pub left : Loaded
  pub right : Loaded
  pub left_is : left.column ≡ c
  pub right_is : right.column ≡ d
  pub fields : FieldsAlike s t left
  pub blames : Blames s t table other left right

both_test : (u w c d : Column) (b : Bool) (field : Option (ℕ × PartName)) (l : List ℕ) → pick b (starts_with u w field) (only l) ≡ both c d → (b ≡ true) × (field ≡ None) × (u ≡ c) × (w ≡ d)
both_test u w c d true None l e = (refl, refl, (cc), (cc))
both_test u w c d true (Some (i, name)) l e = absurd (let z : ◌≡◌ {A = ℕ} 0 1 = cc in omega arith)
both_test u w c d false field l e = absurd (let z : ◌≡◌ {A = ℕ} 0 1 = cc in omega arith)

pub listed_blames : (s t : List ℕ) (c d : Column) → starts (opened_here s) (opened_here t) s t ≡ both c d
    → (table other : List Block) → 2048 ≤ length table → 2048 ≤ length other → Listed s t c d table other
listed_blames s t c d e table other enough enough_too = go (opened_here s) (opened_here t) refl refl e
  where
    go : (x y : Outcome Loaded) → opened_here s ≡ x → opened_here t ≡ y → starts x y s t ≡ both c d → Listed s t c d table other
    go (refusal number also) y is is_too e = absurd (let z : ◌≡◌ {A = ℕ} 0 1 = cc in omega arith)
    go (value o) (refusal number also) is is_too e = absurd (let z : ◌≡◌ {A = ℕ} 0 1 = cc in omega arith)
    go (value o) (value p) is is_too e =
        let q = both_test o.column p.column c d (eqb (length s) (length t)) (first_field (part_of s o.column) s t 0 (length s)) (lengths_line (length s) (length t)) e in
        let so = opened_roomier s 2048 (length table) enough o (here_opened s o is) in
        let tp = opened_roomier t 2048 (length other) enough_too p (here_opened t p is_too) in
        let fields = same_fields s t (length table) o so (eqb-true (length s) (length t) q.0) q.1 in
        record { left = o; right = p; left_is = q.2; right_is = q.3; fields = fields; blames = blame_alike s t table other o p so tp fields }
