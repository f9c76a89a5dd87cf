-- Demands 2 and 3 of columns of signed numbers, dates, bools and floats.
--     kind_back          a value that was stored reads as itself
--     returns_as         demand 2: what was written of a list of any kind gives back the list
--     shortest_as        .. and opens with the shortest spellings
--     passes_as          .. and under both sheets
--     tell_signed, tell_float, tell_flag, tell_typed
--                        demand 3: what the answers read as differs where the stored numbers do
-- Assumes nothing.
use Rattle.std.specs.Prelude.{None}
use mathlib.Core.Path.{◌≡◌, refl, sym, ap, ◌∙◌, subst}
use mathlib.Core.Bool.{Bool, true, false, true≢false, false≢true}
use mathlib.Core.Logic.{◌⊎◌, inl, inr}
use mathlib.Core.List.{List, [], ◌∷◌}
use Prim.Native.Nat.{ℕ, zero, suc, ◌-◌, ◌^◌, ◌≤◌, ◌<◌, min}
use native.Mathlib.Omega.{arith}
use lib.Dec.{ltb, leb}
use lib.ListN.{length, drop, get_or}
use borrow.Author.Tests.{ltb-true, ltb-false}
use Rattle.format.specs.declared.Block.{Block}
use Rattle.format.specs.declared.Kind.{Kind}
use Rattle.format.specs.declared.Kind.TheVariants.{U64, I64, Date, Bool as Flag, F64}
use Rattle.format.specs.declared.Window.{Window}
use Rattle.format.specs.Outcome.{Outcome, Outcome.value, Outcome.refusal, ◌>>◌, demand}
use Rattle.format.specs.Word.{AllBelow}
use Rattle.format.specs.Bodies.{block_count}
use Rattle.format.specs.Writing.{written}
use Rattle.format.specs.Opening.{Loaded, opened}
use Rattle.format.specs.Sheets.{opened_under}
use Rattle.format.specs.Windows.{windowed, in_window}
use Rattle.format.specs.Lookup.{rows_passing, looked_up}
use Rattle.format.specs.Typed.{stored_in, stored_as, read_as, reading_of, meant, lies, between, signed_bits, stored_signed, signed_of, flag_of, stored_float, float_of}
use Rattle.format.specs.Demands.{reads_as, filled_by, answered, LiesIn, shown, GivesBack, GivesBackAs, ReturnsAs, Differ, DifferAs, BothTrue, TellTyped}
use Rattle.format.proofs.Lists.{all_take, all_drop}
use Rattle.format.proofs.Outcomes.{value_same, not_value}
use Rattle.format.proofs.Lookups.{found_in, looked_agree, looked_up_lem}
use Rattle.format.proofs.Mappings.{signed_back, stored_back, bits_in, flag_back, float_back, bits_back}
use Rattle.format.proofs.StoredLists.{stored-shown, stored-length, stored_at, stored-words}
use Rattle.format.proofs.TypedLookups.{row_words}
use Rattle.format.proofs.Demand2.{demand2, written_shortest, written-passes}
use Rattle.format.proofs.Demand3.{demand3}

-- ---- demand 2

pub kind_back : (kind : Kind) (x : ℕ) → x < 2 ^ 64 → (reading_of kind).value (stored_in kind x) ≡ meant kind x
unfolding stored_in
kind_back U64 x h = refl
kind_back I64 x h = signed_back (signed_bits x) (bits_in x h)
kind_back Date x h = signed_back (signed_bits x) (bits_in x h)
kind_back Flag x h = flag_back (ltb 0 x)
kind_back F64 x h = float_back x h

module _ (kind : Kind) (xs : List ℕ) (each : AllBelow (2 ^ 64) xs) where
  -- a row of the list, stored and read
  row_back : (r : ℕ) → r < length xs → (reading_of kind).value (get_or (stored_as kind xs) r 0) ≡ meant kind (get_or xs r 0)
  row_back r h = ap (reading_of kind).value (stored_at kind xs r h) ∙ kind_back kind (get_or xs r 0) (each r h)

  module _ (low high : (reading_of kind).Value) where
    -- the test of the list's own words
    abbrev asked : ℕ → Bool
    asked x = lies (reading_of kind) low high (meant kind x)

    passing_list : (r n : ℕ) → n ≤ length xs - r → found_in (stored_as kind xs) (between (reading_of kind) low high) r n ≡ found_in xs asked r n
    unfolding rows_passing
    passing_list r zero h = refl
    passing_list r (suc n) h = rw (row_back r (omega arith), passing_list (suc r) n (omega arith))

    looked_list : (first end room : ℕ)
        → looked_up (reads_as (stored_as kind xs)) (length (stored_as kind xs)) (between (reading_of kind) low high) first end room ≡ looked_up (reads_as xs) (length xs) asked first end room
    looked_list first end room =
        let n = min end (length xs) - first in
        looked_up_lem (stored_as kind xs) (between (reading_of kind) low high) first end room
        ∙ ap (λ (rs : List ℕ). demand (leb (length rs) room) 15 (length rs ∷ []) >> value rs)
        (ap (λ (k : ℕ). found_in (stored_as kind xs) (between (reading_of kind) low high) first (min end k - first)) (stored-length kind xs) ∙ passing_list first n (omega arith))
        ∙ sym (looked_up_lem xs asked first end room)

  gives_back_as : (bytes : List ℕ) (table : List Block) (o : Loaded) → GivesBack (stored_as kind xs) bytes table o → GivesBackAs kind xs bytes table o
  gives_back_as bytes table o g = record {
    count = g.count ∙ stored-length kind xs;
    rows = λ r h. rw (g.rows r (rw (stored-length kind xs) h)) (ap value (row_back r h));
    found = λ low high first end room.
        ap (λ (n : ℕ). looked_up (answered o table bytes) n (between (reading_of kind) low high) first end room) g.count
        ∙ looked_agree (answered o table bytes) (reads_as (stored_as kind xs)) (length (stored_as kind xs)) (between (reading_of kind) low high) first end room (λ x p q. g.rows x q)
        ∙ looked_list low high first end room;
  }

pub returns_as : (kind : Kind) → ReturnsAs kind
returns_as kind xs cs bytes table room each e enough =
    let g = demand2.0 (stored_as kind xs) cs bytes table room (stored-words kind xs each) e (rw (stored-length kind xs) enough) in
    let o = g.0 in (
      o,
      g.1,
      gives_back_as kind xs each bytes table o g.2,
      λ (w : Window) (inside : LiesIn w o).
          gives_back_as kind (shown w xs) (all_take w.rows (drop w.first xs) (all_drop w.first xs each)) bytes table (in_window o w)
          (subst (λ (l : List ℕ). GivesBack l bytes table (in_window o w)) (sym (stored-shown kind w xs)) (g.3 w inside)),
    )

pub shortest_as : (kind : Kind) (xs cs bytes : List ℕ) (table : List Block) (room : ℕ) → AllBelow (2 ^ 64) xs → written (stored_as kind xs) cs room ≡ value bytes
    → block_count (length xs) ≤ length table → (o : Loaded) → opened bytes (length table) ≡ value o → o.longer ≡ None
shortest_as kind xs cs bytes table room each e enough =
    written_shortest (stored_as kind xs) cs bytes table room (stored-words kind xs each) e (rw (stored-length kind xs) enough)

pub passes_as : (kind : Kind) (xs cs bytes : List ℕ) (table : List Block) (room : ℕ) → AllBelow (2 ^ 64) xs → written (stored_as kind xs) cs room ≡ value bytes
    → block_count (length xs) ≤ length table → (o : Loaded) → opened bytes (length table) ≡ value o
    → (opened_under 1 bytes (length table) ≡ value o) × (opened_under 2 bytes (length table) ≡ value o)
passes_as kind xs cs bytes table room each e enough =
    written-passes (stored_as kind xs) cs bytes table room (stored-words kind xs each) e (rw (stored-length kind xs) enough)

-- ---- demand 3

-- an answer's value has 64 bits
abbrev Small : Outcome ℕ → Type 0
Small a = (u : ℕ) → a ≡ value u → u < 2 ^ 64

-- a refusal is one refusal, whatever was to be read
same_refusal : {A : Type 0} {n m : ℕ} {also more : List ℕ} → ◌≡◌ {A = Outcome A} (refusal n also) (refusal m more) → ◌≡◌ {A = Outcome ℕ} (refusal n also) (refusal m more)
same_refusal {A} {n} {m} {also} {more} e = let p : n ≡ m = cc in let q : also ≡ more = cc in cc

-- a reading that can be undone tells answers apart
undone : {A : Type 0} (read : ℕ → A) (back : A → ℕ) → ((u : ℕ) → u < 2 ^ 64 → back (read u) ≡ u) → (a b : Outcome ℕ) → Small a → Small b → read_as read a ≡ read_as read b → a ≡ b
undone read back h (value u) (value w) s t e =
    ap value (sym (h u (s u refl)) ∙ ap back (value_same e) ∙ h w (t w refl))
undone read back h (value u) (refusal n also) s t e = absurd (not_value (sym e))
undone read back h (refusal n also) (value w) s t e = absurd (not_value e)
undone read back h (refusal n also) (refusal m more) s t e = same_refusal e

-- so what two answers read as differs where they do
differ_as : {A : Type 0} (read : ℕ → A) (r : ℕ) (a b : Outcome ℕ) → (read_as read a ≡ read_as read b → a ≡ b) → Differ r a b → DifferAs read r a b
differ_as read r a b same (inl apart) = inl (λ e. apart (same e))
differ_as read r a b same (inr both) = inr both

pub tell_signed : (r : ℕ) (a b : Outcome ℕ) → Small a → Small b → Differ r a b → DifferAs signed_of r a b
tell_signed r a b s t = differ_as signed_of r a b (undone signed_of stored_signed stored_back a b s t)

pub tell_float : (r : ℕ) (a b : Outcome ℕ) → Small a → Small b → Differ r a b → DifferAs float_of r a b
tell_float r a b s t = differ_as float_of r a b (undone float_of stored_float bits_back a b s t)

-- bools tell 0 from every other stored number
pub tell_flag : (r : ℕ) (a b : Outcome ℕ) → Differ r a b → DifferAs flag_of r a b ⊎ BothTrue a b
tell_flag r a b (inr both) = inl (inr both)
tell_flag r (value u) (value w) (inl apart) = go (flag_of u) refl (flag_of w) refl
  where
    zeros : flag_of u ≡ false → flag_of w ≡ false → value u ≡ value w
    zeros p q =
        let x = ltb-false 0 u p in
        let y = ltb-false 0 w q in
        let same : u ≡ w = omega arith in
        ap value same

    go : (s : Bool) → flag_of u ≡ s → (t : Bool) → flag_of w ≡ t → DifferAs flag_of r (value u) (value w) ⊎ BothTrue (value u) (value w)
    go true p true q = inr (record { one = u; other = w; is_one = refl; is_other = refl; above = ltb-true 0 u p; above_too = ltb-true 0 w q })
    go true p false q = inl (inl (λ e. true≢false (sym p ∙ value_same e ∙ q)))
    go false p true q = inl (inl (λ e. false≢true (sym p ∙ value_same e ∙ q)))
    go false p false q = absurd (apart (zeros p q))
tell_flag r (value u) (refusal n also) (inl apart) = inl (inl (λ e. not_value (sym e)))
tell_flag r (refusal n also) (value w) (inl apart) = inl (inl (λ e. not_value e))
tell_flag r (refusal n also) (refusal m more) (inl apart) = inl (inl (λ e. apart (same_refusal e)))

pub tell_typed : TellTyped
tell_typed s t table other o p opens opens_too alike w inside r h bits =
    let differ = (demand3.2 s t table other o p opens opens_too alike).differ w inside r h bits in
    let small = row_words (windowed o.column w) (filled_by o table) s r in
    let small_too = row_words (windowed p.column w) (filled_by p other) t r in
    let a = answered (in_window o w) table s r in
    let b = answered (in_window p w) other t r in
    record { signed = tell_signed r a b small small_too differ; float = tell_float r a b small small_too differ; flag = tell_flag r a b differ }
