-- The answers of writing.
--     too_short, put_behind                                an output that is too short; the code byte, and the body behind it
--     chosen_apt                                           a chosen codec has the numbers to write by
--     too_many, unknown_byte, none_applies, written_by     what the entry point comes to
--     numbers-written                                      numbers are stored as they are
-- Assumes nothing.
use Rattle.std.specs.Prelude.{Option, Some, None, Ok, Err}
use Prim.Native.Nat.{ℕ, suc, ◌+◌, ◌^◌, ◌≤◌, ◌<◌}
use mathlib.Core.Path.{◌≡◌, sym, ap, ◌∙◌, subst}
use mathlib.Core.List.{List, [], ◌∷◌}
use native.Mathlib.Omega.{arith}
use borrow.Author.Tests.{le-leb, lt-leb, lt-ltb, le-ltb}
use lib.ListN.{length, set}
use Rattle.format.specs.declared.Codec.{Codec}
use Rattle.format.specs.declared.ColumnStats.{ColumnStats}
use Rattle.format.specs.declared.Kind.TheVariants.{U64}
use Rattle.format.specs.declared.Refusal.TheVariants.{TooManyValues, UnknownCodec, NoCodecApplies, OutputShort}
use Rattle.format.specs.Outcome.{Outcome, Outcome.value, Outcome.refusal, Wrote}
use Rattle.format.specs.Stats.{stats_of}
use Rattle.format.specs.Listing.{code_of}
use Rattle.format.specs.Bodies.{column_by}
use Rattle.format.specs.Writing.{size_of, chosen, known, codec_of, written}
use Rattle.format.specs.Typed.{stored_as}
use Rattle.format.proofs.Outcomes.{told}
use Rattle.format.proofs.StoredLists.{stored-numbers}
use Rattle.write_codec.specs.Choice.{place_meaning, choice_meaning, AptCodec, Names}
use Rattle.write_codec.specs.Writing.{lent}
use Rattle.format.specs.Calls.{StoresAs, StoredAs}

-- an output that is too short
pub too_short : (column old : List ℕ) (needed : ℕ) → needed ≡ length column → length old < needed
    → StoredAs (lent column (length old)) (Err (OutputShort needed)) old old
too_short column old needed e h =
    let short = lt-leb (length column) (length old) (omega arith) in
    record { answer = rw (short, e); list = rw short }

-- the code byte, and the body behind it
pub put_behind : (code : ℕ) (bytes old : List ℕ) {new : List ℕ} (needed : ℕ) {n : ℕ} → needed ≡ suc (length bytes) → needed ≤ length old
    → Wrote (set old 0 code) 1 bytes new n → StoredAs (lent (code ∷ bytes) (length old)) (Ok n) old new
put_behind code bytes old needed e h w =
    let enough = le-leb (suc (length bytes)) (length old) (omega arith) in
    record { answer = rw (enough, w.ends, one (length bytes)); list = rw enough w.list }
  where
    one : (k : ℕ) → 1 + k ≡ suc k
    one k = omega arith

-- ---- the entry point

pub chosen_apt : {vs : List ℕ} {o : Outcome ℕ} {c : Option Codec} {codec : Codec} → Names vs o c → c ≡ Some codec → AptCodec vs codec
chosen_apt named is = rw is at named.apt

module _ (vs cs old : List ℕ) where
  pub too_many : 2 ^ 32 ≤ length vs → StoredAs (written vs cs (length old)) (Err TooManyValues) old old
  unfolding written
  too_many h = record { answer = rw (le-ltb (length vs) (2 ^ 32) h); list = rw (le-ltb (length vs) (2 ^ 32) h) }

  module _ (few : length vs < 2 ^ 32) {p : Option ℕ} (sought : place_meaning p ≡ known 0 cs) where
    pub unknown_byte : {i : ℕ} → p ≡ Some i → StoredAs (written vs cs (length old)) (Err (UnknownCodec i)) old old
    unfolding written
    unknown_byte {i} is =
        let found = told place_meaning sought is in
        record { answer = rw (lt-ltb (length vs) (2 ^ 32) few, found); list = rw (lt-ltb (length vs) (2 ^ 32) few, found) }

    module _ (nowhere : p ≡ None) {s : ColumnStats} (stats : s ≡ stats_of vs) {b : Option Codec} (named : Names vs (codec_of (chosen (λ c. size_of c s vs) cs)) b) where
      choice : codec_of (chosen (λ c. size_of c (stats_of vs) vs) cs) ≡ choice_meaning b
      choice = rw (← stats) (sym named.means)

      pub none_applies : b ≡ None → StoredAs (written vs cs (length old)) (Err NoCodecApplies) old old
      unfolding written
      none_applies is =
          let chose : codec_of (chosen (λ c. size_of c (stats_of vs) vs) cs) ≡ refusal 3 [] = choice ∙ ap choice_meaning is in
          record { answer = rw (lt-ltb (length vs) (2 ^ 32) few, told place_meaning sought nowhere, chose); list = rw (lt-ltb (length vs) (2 ^ 32) few, told place_meaning sought nowhere, chose) }

      pub written_by : {codec : Codec} {said : Outcome ℕ} {new : List ℕ} → b ≡ Some codec
          → StoresAs (lent (column_by (code_of codec) vs) (length old)) said old new → StoresAs (written vs cs (length old)) said old new
      unfolding written
      written_by {codec} is left =
          let chose : codec_of (chosen (λ c. size_of c (stats_of vs) vs) cs) ≡ value (code_of codec) = choice ∙ ap choice_meaning is in
          rw (lt-ltb (length vs) (2 ^ 32) few, told place_meaning sought nowhere, chose) left

-- numbers are stored as they are
pub numbers-written : (vs cs : List ℕ) (room : ℕ) {said : Outcome ℕ} {before after : List ℕ}
    → StoresAs (written (stored_as U64 vs) cs room) said before after → StoresAs (written vs cs room) said before after
numbers-written vs cs room {said} {before} {after} = subst (λ (xs : List ℕ). StoresAs (written xs cs room) said before after) (stored-numbers vs)
