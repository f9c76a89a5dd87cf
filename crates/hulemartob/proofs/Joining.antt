-- A column, or a kind, that is made of numbers, and what is done with it; of numbers that are none what is done leaves lent memory as it was.
--     by_number                  a row is read by the block of its number
--     lists                      what is done with a column decides, with a lent list
--     lookup_still, run_still    no rows are found or decoded in a column of no rows
--     judges                     the verdict on values of a kind
-- Assumes nothing.
use Rattle.format.specs.declared.Refusal.{Refusal}
use Rattle.format.specs.declared.Mismatch.{Mismatch}
use Rattle.std.specs.Prelude.{Result, Ok, Err}
use Prim.Native.Nat.{ℕ, zero, suc, ◌+◌, ◌-◌, ◌/◌, ◌^◌, ◌<◌, min}
use mathlib.Core.Path.{◌≡◌, refl, ap, ◌∙◌, subst}
use mathlib.Core.Bool.{Bool, true, false, ◌&&◌, and-eq-true_iff}
use mathlib.Core.List.{List, []}
use native.Mathlib.Omega.{arith}
use lib.Dec.{ltb, leb}
use lib.ListN.{length, get_or}
use borrow.Author.Tests.{le-leb, lt-leb, ltb-true}
use Rattle.format.specs.declared.Block.{Block}
use Rattle.format.specs.declared.Codec.{Codec}
use Rattle.format.specs.declared.Codec.TheVariants.{Linear, Blockwise}
use Rattle.format.specs.declared.Column.{Column}
use Rattle.format.specs.declared.Kind.{Kind}
use Rattle.format.specs.declared.Line.{Line}
use Rattle.format.specs.Calls.{StoresAs}
use Rattle.format.specs.Checking.{checked}
use Rattle.format.specs.Lookup.{looked_up, all_read, rows_passing}
use Rattle.format.specs.Opening.{table_in}
use Rattle.format.specs.Outcome.{Outcome, Outcome.value, ◌>>=◌, ◌>>◌, demand, how_many, stored}
use Rattle.format.specs.Reading.{block_at, place_in, row_fits, fits, packed_of, value_in, row_in, row_at}
use Rattle.format.specs.Refusals.{checked_meaning, answered_by}
use Rattle.format.specs.Runs.{decoded, read_run}
use Rattle.format.specs.Sheets.{opened_under, under_sheet}
use Rattle.format.specs.Typed.{stored_as}
use Rattle.format.specs.Word.{mod_add}
use Rattle.table_asked.specs.Checked.{CheckedAs}
use Rattle.c_answers.specs.Checking.{verdict_numbers}
use Rattle.c_numbers.specs.Explaining.{Tells}
use Rattle.c_numbers.specs.Kinds.{kind_from, kind_of, sheet_of}
use Rattle.c_numbers.specs.Numbers.{after, column_with, codec_from, counts_fit, column_from, no_column, column_of, Answers}
use Rattle.c_row.specs.Short.{row_of}
use Rattle.hulemartob.specs.Calls.{row_from, Lists, Judges}

-- ---- columns

-- a row is read by the block of its number, which only a Blockwise column asks for
module _ (ns : List ℕ) (t : List Block) (s : List ℕ) (r k : ℕ) (number : get_or ns 0 0 ≡ 2 → k ≡ mod_add (get_or ns 10 0) r / 512) (few : r < 2 ^ 32) where
  -- a column of a Linear codec, if its width is a byte
  by_line : (l : Line) (w : ℕ) (byte : Bool) (b : Block) → (demand byte 13 [] >> value (Linear l w) >>= (λ (codec : Codec). value (column_with ns codec)) >>= (λ (col : Column). row_in col (length t) b s r))
      ≡ (demand byte 13 [] >> value (Linear l w) >>= (λ (codec : Codec). value (column_with ns codec)) >>= (λ (col : Column). row_at col t s r))
  unfolding row_in fits row_fits packed_of place_in value_in
  by_line l w true b = refl
  by_line l w false b = refl

  by_codec : (code : ℕ) → get_or ns 0 0 ≡ code → counts_fit ns ≡ true
      → (codec_from code (get_or ns 7 0) (get_or ns 8 0) (get_or ns 9 0) >>= (λ (codec : Codec). value (column_with ns codec)) >>= (λ (col : Column). row_in col (length t) (block_at t k) s r))
      ≡ (codec_from code (get_or ns 7 0) (get_or ns 8 0) (get_or ns 9 0) >>= (λ (codec : Codec). value (column_with ns codec)) >>= (λ (col : Column). row_at col t s r))
  unfolding codec_from row_in fits row_fits packed_of place_in value_in
  by_codec zero is fit = refl
  by_codec (suc zero) is fit = by_line (record { slope = get_or ns 7 0; intercept = get_or ns 8 0 }) (get_or ns 9 0) (ltb (get_or ns 9 0) (2 ^ 8)) (block_at t k)
  by_codec (suc (suc zero)) is fit =
      let two = (and-eq-true_iff (ltb (get_or ns 4 0) (2 ^ 32) && ltb (get_or ns 10 0) (2 ^ 32)) (ltb (get_or ns 11 0) (2 ^ 32))).0 fit in
      let first = ltb-true (get_or ns 10 0) (2 ^ 32) ((and-eq-true_iff (ltb (get_or ns 4 0) (2 ^ 32)) (ltb (get_or ns 10 0) (2 ^ 32))).0 two.0).1 in
      let same : k ≡ (get_or ns 10 0 + r) / 512 = omega (arith, number is, first, few) in
      ap (λ (q : ℕ). row_in (column_with ns Blockwise) (length t) (block_at t q) s r) same
  by_codec (suc (suc (suc code))) is fit = refl

  by_counts : (fit : Bool) → counts_fit ns ≡ fit
      → (demand fit 13 [] >> (codec_from (get_or ns 0 0) (get_or ns 7 0) (get_or ns 8 0) (get_or ns 9 0) >>= (λ (codec : Codec). value (column_with ns codec))) >>= (λ (col : Column). row_in col (length t) (block_at t k) s r))
      ≡ (demand fit 13 [] >> (codec_from (get_or ns 0 0) (get_or ns 7 0) (get_or ns 8 0) (get_or ns 9 0) >>= (λ (codec : Codec). value (column_with ns codec))) >>= (λ (col : Column). row_at col t s r))
  by_counts true is = by_codec (get_or ns 0 0) refl is
  by_counts false is = refl

  pub by_number : {b : Block} {result : ℕ} {two : List ℕ} → b ≡ block_at t k → Answers (row_of ns (length t) b s r) result two → Answers (row_from ns t s r) result two
  unfolding column_from
  by_number {b} {result} {two} is a =
      subst (λ (o : Outcome ℕ). Answers o result two) (ap (λ (d : Block). row_of ns (length t) d s r) is ∙ by_counts (counts_fit ns) refl) a

pub lists : (k : Column → Outcome (List ℕ)) (ns : List ℕ) (made : Result Column Refusal) → answered_by made ≡ column_from ns → ((l : List ℕ) → stored (k no_column) l ≡ l) → {c : Column} → c ≡ column_of made
    → {said : Outcome ℕ} {result : ℕ} {two old new : List ℕ} → StoresAs (k c) said old new → Answers (after (answered_by made) said) result two → Lists (column_from ns >>= k) result two old new
lists k ns (Ok d) means still is {said} {result} {two} {old} s a =
    record {
      answers = subst (λ (o : Outcome ℕ). Answers o result two) (s.answer ∙ ap (λ (c : Column). how_many (k c)) is ∙ ap (λ (o : Outcome Column). how_many (o >>= k)) means) a;
      list = s.list ∙ ap (λ (c : Column). stored (k c) old) is ∙ ap (λ (o : Outcome Column). stored (o >>= k) old) means;
    }
lists k ns (Err r) means still is {said} {result} {two} {old} s a =
    record {
      answers = subst (λ (o : Outcome ℕ). Answers o result two) (ap (λ (o : Outcome Column). how_many (o >>= k)) means) a;
      list = s.list ∙ ap (λ (c : Column). stored (k c) old) is ∙ still old ∙ ap (λ (o : Outcome Column). stored (o >>= k) old) means;
    }

pub lookup_still : (read : ℕ → Outcome ℕ) (test : ℕ → Bool) (first end room : ℕ) (l : List ℕ) → stored (looked_up read 0 test first end room) l ≡ l
unfolding looked_up all_read rows_passing
lookup_still read test first end room l = rw (none, le-leb 0 room (omega arith))
  where
    none : min end 0 - first ≡ 0
    none = omega arith

pub run_still : (read : ℕ → Outcome ℕ) (first n : ℕ) (l : List ℕ) → stored (decoded read 0 first n) l ≡ l
unfolding decoded read_run
run_still read first zero l = at_end (leb (first + zero) 0)
  where
    at_end : (b : Bool) → stored (demand b 12 [] >> value []) l ≡ l
    at_end true = refl
    at_end false = refl
run_still read first (suc n) l = rw (lt-leb (first + suc n) 0 (omega arith))

-- ---- kinds

module _ (n sheet : ℕ) (s xs : List ℕ) (room : ℕ) where
  -- the numbers of the verdict on values of a kind, and the blocks, whatever the kind
  abbrev judge : Kind → Outcome (List ℕ)
  judge kind = value (verdict_numbers (checked (opened_under sheet s room) s (stored_as kind xs)))

  abbrev blocks : Kind → Outcome (List Block)
  blocks kind = table_in (opened_under sheet s room)

  module _ {r : Result (Unit {0}) Mismatch} {two verdict verdict' : List ℕ} {table table' : List Block} where
    judged : (known : Result Kind Refusal) → answered_by known ≡ kind_from n → CheckedAs (opened_under (sheet_of known sheet) s room) s (stored_as (kind_of known) xs) r table table'
        → Tells (after (answered_by known) (value (verdict_numbers (checked_meaning r)))) two verdict verdict' → Judges n sheet s xs room two verdict verdict' table table'
    unfolding under_sheet
    judged (Ok kind) means c t =
        record {
          tells = subst (λ (o : Outcome (List ℕ)). Tells o two verdict verdict') (ap (λ v. value (verdict_numbers v)) c.answer ∙ ap (λ (o : Outcome Kind). o >>= judge) means) t;
          table_is = c.table ∙ ap (λ (o : Outcome Kind). stored (o >>= blocks) table) means;
        }
    judged (Err q) means c t =
        record {
          tells = subst (λ (o : Outcome (List ℕ)). Tells o two verdict verdict') (ap (λ (o : Outcome Kind). o >>= judge) means) t;
          table_is = c.table ∙ ap (λ (o : Outcome Kind). stored (o >>= blocks) table) means;
        }

    pub judges : (known : Result Kind Refusal) → answered_by known ≡ kind_from n → (kind : Kind) → kind ≡ kind_of known → (under : ℕ) → under ≡ sheet_of known sheet → CheckedAs (opened_under under s room) s (stored_as kind xs) r table table'
        → Tells (after (answered_by known) (value (verdict_numbers (checked_meaning r)))) two verdict verdict' → Judges n sheet s xs room two verdict verdict' table table'
    judges known means kind is under at c t =
        judged known means
        (subst (λ (u : ℕ). CheckedAs (opened_under u s room) s (stored_as (kind_of known) xs) r table table') at (subst (λ (k : Kind). CheckedAs (opened_under under s room) s (stored_as k xs) r table table') is c)) t
