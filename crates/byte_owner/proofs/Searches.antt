-- A search for the rows of a byte, block after block.
--     search_ends                               a search with no block left answers what it says
--     begins_unfit, begins_early, begins_in     how a search begins
--     step_found, step_more                     a block that has rows there, and one that has none
-- Assumes nothing.
use Rattle.std.specs.Option.{option_or}
use Rattle.format.specs.declared.Refusal.{Refusal}
use Rattle.format.specs.Refusals.{answered_by}
use Rattle.std.specs.Prelude.{Option, Some, None, is_some, Result, Ok, Err}
use Prim.Native.Nat.{ℕ, suc, ◌+◌, ◌-◌, ◌*◌, ◌≤◌, ◌<◌, min}
use mathlib.Core.Bool.{true, false, true≢false}
use mathlib.Core.Path.{◌≡◌, refl, sym, ap, ◌∙◌}
use mathlib.Core.List.{List}
use native.Mathlib.Numerals.{add-one}
use native.Mathlib.Omega.{arith}
use Rattle.format.specs.declared.Block.{Block}
use Rattle.format.specs.declared.Codec.{Codec}
use Rattle.format.specs.declared.Codec.TheVariants.{Bitpacked, Linear, Blockwise}
use Rattle.format.specs.declared.Column.{Column}
use Rattle.format.specs.declared.Refusal.TheVariants.{Unfit}
use Rattle.format.specs.Outcome.{Outcome, Outcome.value, Outcome.refusal}
use Rattle.format.specs.Reading.{block_at}
use Rattle.format.specs.Parts.{run_owners, block_run, block_owners, area_owners}
use Rattle.byte_owner.specs.declared.Search.{Search}
use Rattle.byte_part.specs.Bytes.{fits_at}
use Rattle.byte_owner.specs.Bytes.{rows_of}
use Rattle.byte_owner.specs.Search.{ended, area_search, or_left, searched, Searching}
use Rattle.byte_owner.proofs.Bytes.{rows_unfit, rows_found}
use Rattle.byte_owner.proofs.Runs.{owners_early, owners_by}

ended_searching : (rows : ℕ) (a : Result (Option (ℕ × ℕ)) Refusal) → Searching rows (ended a)
ended_searching rows a = record { inside = omega arith; none = λ h. absurd (omega arith) }

-- where no block is left
or_none : (o : Outcome (Option (ℕ × ℕ))) → or_left o None ≡ o
or_none (value (Some rows)) = refl
or_none (value None) = refl
or_none (refusal number also) = refl

pub search_ends : (t : List Block) (rows : ℕ) (w : Search) → w.left ≡ 0 → searched t rows w ≡ answered_by w.answer
unfolding block_owners
search_ends t rows w e = ap (λ (n : ℕ). or_left (answered_by w.answer) (block_owners t rows w.next n w.byte)) e ∙ or_none (answered_by w.answer)

module _ (count rows j : ℕ) where
  area_searching : (codec : Codec) → Searching rows (area_search codec count rows j)
  unfolding area_search
  area_searching Bitpacked = ended_searching rows _
  area_searching (Linear l w) = ended_searching rows _
  area_searching Blockwise = record { inside = omega arith; none = λ h. refl }

  area_answers : (codec : Codec) (t : List Block) → searched t rows (area_search codec count rows j) ≡ value (area_owners codec count rows t j)
  unfolding area_search area_owners
  area_answers Bitpacked t = search_ends t rows (area_search Bitpacked count rows j) refl
  area_answers (Linear l w) t = search_ends t rows (area_search (Linear l w) count rows j) refl
  area_answers Blockwise t = refl

module _ (s : List ℕ) (col : Column) (i : ℕ) where
  -- a search that comes to the rows of the byte
  abbrev Begins : Search → Type 0
  Begins w = Searching col.rows w × ((t : List Block) → searched t col.rows w ≡ rows_of s col t i)

  pub begins_unfit : fits_at s col i ≡ false → Begins (ended (Err Unfit))
  begins_unfit e = (ended_searching col.rows (Err Unfit), λ t. search_ends t col.rows (ended (Err Unfit)) refl ∙ rows_unfit s col i t e)

  pub begins_early : fits_at s col i ≡ true → i < col.start → Begins (ended (Ok None))
  begins_early e h = (ended_searching col.rows (Ok None), λ t. search_ends t col.rows (ended (Ok None)) refl ∙ rows_found s col i t e None (owners_early col t i h))

  pub begins_in : fits_at s col i ≡ true → col.start ≤ i → Begins (area_search col.codec col.count col.rows (i - col.start))
  begins_in e h = (
    area_searching col.count col.rows (i - col.start) col.codec,
    λ t. area_answers col.count col.rows (i - col.start) col.codec t
        ∙ rows_found s col i t e (area_owners col.codec col.count col.rows t (i - col.start)) (owners_by col t i _ col.codec h refl refl),
  )

-- rows that were found are the answer, whatever is left
some_first : (o rest : Option (ℕ × ℕ)) → is_some o ≡ true → o ≡ option_or o rest
some_first (Some rows) rest e = refl
some_first None rest e = absurd (true≢false (sym e))

none_found : (o : Option (ℕ × ℕ)) → is_some o ≡ false → o ≡ None
none_found (Some rows) e = absurd (true≢false e)
none_found None e = refl

-- the next block is asked
module _ {rows : ℕ} {w : Search} (f : Searching rows w) (some : 0 < w.left) (b : Block) (o : Option (ℕ × ℕ))
    (is : o ≡ run_owners (record { start = b.start; bits = b.bits; first = 512 * w.next; rows = min (rows - 512 * w.next) 512 }) w.byte) where
  -- it, and those behind it
  turn : (t : List Block) → b ≡ block_at t w.next → searched t rows w ≡ value (option_or o (block_owners t rows (w.next + 1) (w.left - 1) w.byte))
  unfolding block_owners
  turn t at =
      let one : w.left ≡ suc (w.left - 1) = omega arith in
      let here : run_owners (block_run t rows w.next) w.byte ≡ o =
      ap (λ (d : Block). run_owners (record { start = d.start; bits = d.bits; first = 512 * w.next; rows = min (rows - 512 * w.next) 512 }) w.byte) (sym at) ∙ sym is in
      ap (λ (a : Result (Option (ℕ × ℕ)) Refusal). or_left (answered_by a) (block_owners t rows w.next w.left w.byte)) (f.none some)
      ∙ ap (λ (n : ℕ). value (block_owners t rows w.next n w.byte)) one
      ∙ ap (λ (a : Option (ℕ × ℕ)). value (option_or a (block_owners t rows (suc w.next) (w.left - 1) w.byte))) here
      ∙ ap (λ (m : ℕ). value (option_or o (block_owners t rows m (w.left - 1) w.byte))) (sym (add-one w.next))

  -- it has rows there
  pub step_found : is_some o ≡ true
      → Searching rows (ended (Ok o)) × ((t : List Block) → b ≡ block_at t w.next → searched t rows (ended (Ok o)) ≡ searched t rows w)
  step_found e =
      (ended_searching rows (Ok o), λ t at. search_ends t rows (ended (Ok o)) refl ∙ ap (λ (a : Option (ℕ × ℕ)). value a) (some_first o _ e) ∙ sym (turn t at))

  -- it has none
  pub step_more : is_some o ≡ false → let u : Search = record { next = w.next + 1; left = w.left - 1; byte = w.byte; answer = Ok o } in
      Searching rows u × ((t : List Block) → b ≡ block_at t w.next → searched t rows u ≡ searched t rows w)
  step_more e = (record { inside = omega (arith, f.inside); none = λ h. ap Ok (none_found o e) }, λ t at. sym (turn t at))
