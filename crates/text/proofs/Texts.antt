-- How long text is, and which bytes of a buffer a caller then takes.
--     length-named, named_most     a name and a number of 64 bits: at most twenty bytes more than the name
--     row_most                     a row's number: at most ten digits
--     counts                       an offset inside a buffer counts the bytes before it
-- Assumes nothing.
use Prim.Native.Nat.{ℕ, ◌+◌, ◌^◌, ◌≤◌, ◌<◌}
use mathlib.Core.Path.{◌≡◌, sym}
use mathlib.Core.List.{List}
use native.Mathlib.Omega.{arith}
use lib.ListN.{length, length-append}
use lib.Seq.{length-take-le}
use Rattle.io.specs.Counts.{IsPrefixLen}
use Rattle.format.specs.Listing.{decimal, named}
use Rattle.text.proofs.Decimals.{length-decimal}

pub length-named : (name : List ℕ) (n : ℕ) → length (named name n) ≡ length name + length (decimal n)
unfolding named
length-named name n = length-append name (decimal n)

-- a number of 64 bits has at most twenty digits
pub named_most : (name : List ℕ) (n : ℕ) → n < 2 ^ 64 → length (named name n) ≤ length name + 20
named_most name n h = omega (arith, length-named name n, length-decimal 19 n (omega arith))

-- a row's number has at most ten
pub row_most : (r : ℕ) → r < 2 ^ 32 → length (decimal r) ≤ 10
row_most r h = length-decimal 9 r (omega arith)

-- a caller then takes `&out[..r]`
pub counts : (r : ℕ) (out : List ℕ) → r ≤ length out → IsPrefixLen r out
counts r out inside = (inside, sym (length-take-le r out inside))
