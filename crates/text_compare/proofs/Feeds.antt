-- Line feeds: how many a comparison's text has.
--     feeds, feeds_append           how many there are in a text; in two, one behind the other
--     decimal_feeds, named_feeds    a number has none, nor a name and a number where the name has none
--     line_feeds, lines_feeds       a row's line has one; so the lines have as many as there are rows
--     compared_feeds                and the comparison one more
-- Assumes nothing.
use Prim.Native.Nat.{ℕ, zero, suc, ◌+◌, ◌/◌, ◌%◌}
use mathlib.Core.Path.{◌≡◌, refl}
use mathlib.Core.Bool.{Bool, true, false}
use mathlib.Core.List.{List, [], ◌∷◌, ◌++◌}
use native.Mathlib.Omega.{arith}
use borrow.Author.Tests.{ne_eqb}
use lib.Dec.{ltb, eqb}
use lib.ListN.{length}
use Rattle.format.specs.Outcome.{Outcome, Outcome.value, Outcome.refusal, pick}
use Rattle.format.specs.Listing.{ascii, decimal_in, decimal, named, named_line, answer_text}
use Rattle.format.specs.Comparing.{absent, side_text, pair_line, differing, pair_lines, compared}

-- how many line feeds a text has
unfoldable pub feeds : List ℕ → ℕ
feeds [] = 0
feeds (c ∷ s) = pick (eqb c 10) 1 0 + feeds s

pub feeds_append : (a b : List ℕ) → feeds (a ++ b) ≡ feeds a + feeds b
unfolding feeds
feeds_append [] b = omega arith
feeds_append (c ∷ a) b = omega (arith, feeds_append a b)

-- some that are known
none_feeds : feeds [] ≡ 0
unfolding feeds
none_feeds = refl

space_feeds : feeds (ascii " ") ≡ 0
unfolding feeds
space_feeds = refl

end_feeds : feeds (ascii "\n") ≡ 1
unfolding feeds
end_feeds = refl

pub name_feeds : feeds (ascii "lines ") ≡ 0
unfolding feeds
name_feeds = refl

-- ---- numbers

digit_feeds : (d : ℕ) → feeds ((48 + d) ∷ []) ≡ 0
unfolding feeds
digit_feeds d = rw (ne_eqb (48 + d) 10 (λ e. omega arith))

digit_or : (test : Bool) (n : ℕ) (more : List ℕ) → feeds more ≡ 0 → feeds (pick test ((48 + n) ∷ []) (more ++ ((48 + n % 10) ∷ []))) ≡ 0
digit_or true n more none = digit_feeds n
digit_or false n more none = omega (arith, feeds_append more ((48 + n % 10) ∷ []), digit_feeds (n % 10))

digits_feeds : (most n : ℕ) → feeds (decimal_in most n) ≡ 0
unfolding decimal_in
digits_feeds zero n = none_feeds
digits_feeds (suc most) n = digit_or (ltb n 10) n (decimal_in most (n / 10)) (digits_feeds most (n / 10))

pub decimal_feeds : (n : ℕ) → feeds (decimal n) ≡ 0
unfolding decimal
decimal_feeds n = digits_feeds (suc n) n

pub named_feeds : (name : List ℕ) (n : ℕ) → feeds name ≡ 0 → feeds (named name n) ≡ 0
unfolding named
named_feeds name n none = omega (arith, feeds_append name (decimal n), decimal_feeds n)

-- ---- lines

side_feeds : (o : Outcome ℕ) → feeds (side_text o) ≡ 0
unfolding feeds
side_feeds o = go (absent o)
  where
    answer : (o : Outcome ℕ) → feeds (answer_text o) ≡ 0
    answer (value v) = decimal_feeds v
    answer (refusal number also) = named_feeds (ascii "refused ") number refl

    go : (t : Bool) → feeds (pick t (ascii "none") (answer_text o)) ≡ 0
    go true = refl
    go false = answer o

-- a row's line has one
pub line_feeds : (r : ℕ) (left right : Outcome ℕ) → feeds (pair_line r left right) ≡ 1
unfolding pair_line
line_feeds r left right =
    omega (
      arith,
      feeds_append (decimal r) (ascii " " ++ (side_text left ++ (ascii " " ++ (side_text right ++ ascii "\n")))),
      feeds_append (ascii " ") (side_text left ++ (ascii " " ++ (side_text right ++ ascii "\n"))),
      feeds_append (side_text left) (ascii " " ++ (side_text right ++ ascii "\n")),
      feeds_append (ascii " ") (side_text right ++ ascii "\n"),
      feeds_append (side_text right) (ascii "\n"),
      decimal_feeds r,
      side_feeds left,
      side_feeds right,
      space_feeds,
      end_feeds,
    )

module _ (left right : ℕ → Outcome ℕ) where
  -- as many as there are rows
  pub lines_feeds : (rs : List ℕ) → feeds (pair_lines left right rs) ≡ length rs
  unfolding pair_lines feeds
  lines_feeds [] = refl
  lines_feeds (r ∷ rs) = omega (arith, feeds_append (pair_line r (left r) (right r)) (pair_lines left right rs), line_feeds r (left r) (right r), lines_feeds rs)

-- a name and a number as a line have one, where the name has none
pub named_line_feeds : (name : List ℕ) (n : ℕ) → feeds name ≡ 0 → feeds (named_line name n) ≡ 1
unfolding named_line
named_line_feeds name n none = omega (arith, feeds_append (named name n) (ascii "\n"), named_feeds name n none, end_feeds)

-- so a comparison has one more than rows that differ
pub compared_feeds : (left right : ℕ → Outcome ℕ) (rows : ℕ) → feeds (compared left right rows) ≡ length (differing left right 0 rows) + 1
unfolding compared
compared_feeds left right rows =
    let rs = differing left right 0 rows in
    omega (arith, feeds_append (pair_lines left right rs) (named_line (ascii "lines ") (length rs)), lines_feeds left right rs, named_line_feeds (ascii "lines ") (length rs) name_feeds)
