-- The worked columns, held against the contract of `serialize` itself.
--     Case, columns         values, codecs, and the bytes that they are written as
--     columns_written       whatever the contract allows, with an output that has room, is those bytes
-- Assumes nothing.
use Rattle.format.specs.declared.Refusal.{Refusal}
use Rattle.std.specs.Prelude.{Result, Ok}
use Prim.Native.Nat.{ℕ, ◌≤◌}
use mathlib.Core.Path.{◌≡◌, refl}
use mathlib.Core.List.{List, [], ◌∷◌, map}
use borrow.Author.Tests.{le-leb}
use lib.ListN.{length}
use lib.Seq.{sets}
use Rattle.format.specs.Outcome.{Outcome}
use Rattle.format.specs.Varint.{spell, spell_in}
use Rattle.format.specs.Packing.{width, bit_length, bits_in, packed, bytes_of, rows_bits, bits_of, num_of, num_bytes}
use Rattle.format.specs.Stats.{stats_of, reduce, fold_from, gcd, euclid, spell_head}
use Rattle.format.specs.Line.{line_at, trained, rising, height, slope_of, nearer, residuals, residuals_from, spell_line}
use Rattle.format.specs.Bodies.{body, bitpacked, blockwise, blocks, blocks_in, block_area, block_entry, block_width, block_residuals, joined, footer}
use Rattle.format.specs.Saving.{saving, exponent_of, last_reached, power_bounds, reaches, in_f32, nearest}
use Rattle.format.specs.Writing.{written, known, chosen, size_of, block_size, block_sizes}
use Rattle.format.proofs.Answers.{answered_injective}
use Rattle.write_codec.specs.Writing.{lent}
use Rattle.format.specs.Calls.{StoredAs}

pub record Case : Type 0 where
  pub values : List ℕ
  pub codecs : List ℕ
  pub bytes : List ℕ

-- whatever the contract allows is the case's bytes
abbrev pub Writes : Case → Type 0
Writes c =
    (before after : List ℕ) (r : Result ℕ Refusal) → length c.bytes ≤ length before → StoredAs (written c.values c.codecs (length before)) r before after
    → (r ≡ Ok (length c.bytes)) × (after ≡ sets before 0 c.bytes)

abbrev pub All : List Case → Type 0
All [] = Unit {0}
All (c ∷ cs) = Writes c × All cs

abbrev every : List ℕ
every = 0 ∷ 1 ∷ 2 ∷ []

abbrev pub columns : List Case
columns =
    record { values = []; codecs = every; bytes = 0x00 ∷ 0x80 ∷ 0x81 ∷ 0x80 ∷ 0x80 ∷ [] }
    ∷ record { values = 7 ∷ []; codecs = every; bytes = 0x00 ∷ 0x87 ∷ 0x81 ∷ 0x80 ∷ 0x81 ∷ [] }
    ∷ record { values = 10 ∷ 30 ∷ 20 ∷ []; codecs = every; bytes = 0x00 ∷ 0x8A ∷ 0x8A ∷ 0x82 ∷ 0x83 ∷ 0x18 ∷ [] }
    ∷ record {
      values = 10 ∷ 30 ∷ 20 ∷ [];
      codecs = 2 ∷ [];
      bytes = 0x02 ∷ 0x8A ∷ 0x8A ∷ 0x82 ∷ 0x83 ∷ 0x08 ∷ 0x00 ∷ 0x00 ∷ 0x00 ∷ 0x00 ∷ 0x88 ∷ 0x80 ∷ 0x02 ∷ 0x07 ∷ 0x00 ∷ 0x00 ∷ 0x00 ∷ [];
    }
    ∷ record {
      values = 3 ∷ 2 ∷ 1 ∷ 0 ∷ [];
      codecs = 2 ∷ [];
      bytes =
          0x02 ∷ 0x80 ∷ 0x81 ∷ 0x83 ∷ 0x84 ∷ 0x0E ∷ 0x7F ∷ 0x7F ∷ 0x7F ∷ 0x7F ∷ 0x6F ∷ 0x7F ∷ 0x7F ∷ 0x7F ∷ 0x7F ∷ 0x81 ∷ 0x83 ∷ 0x01 ∷ 0x0C ∷ 0x00 ∷ 0x00 ∷ 0x00 ∷ [];
    }
    ∷ record { values = 7 ∷ []; codecs = 2 ∷ []; bytes = 0x02 ∷ 0x87 ∷ 0x81 ∷ 0x80 ∷ 0x81 ∷ 0x80 ∷ 0x80 ∷ 0x00 ∷ 0x03 ∷ 0x00 ∷ 0x00 ∷ 0x00 ∷ [] }
    ∷ []

-- a column that the definition gives in any room is what the contract allows
by_definition : (c : Case) → ((room : ℕ) → written c.values c.codecs room ≡ lent c.bytes room) → Writes c
by_definition c is before after r room left =
    let met = le-leb (length c.bytes) (length before) room in
    let told = rw (is (length before), met) at left in
    (answered_injective r (Ok (length c.bytes)) told.answer, told.list)

-- what the definition gives for a case in some room, and what it should
abbrev given : (room : ℕ) → Case → Outcome (List ℕ)
given room c = written c.values c.codecs room

abbrev wanted : (room : ℕ) → Case → Outcome (List ℕ)
wanted room c = lent c.bytes room

same_first : {A : Type 0} {x y : A} {xs ys : List A} → x ∷ xs ≡ y ∷ ys → x ≡ y
same_first {A} {x} {y} {xs} {ys} e = cc

same_rest : {A : Type 0} {x y : A} {xs ys : List A} → x ∷ xs ≡ y ∷ ys → xs ≡ ys
same_rest {A} {x} {y} {xs} {ys} e = cc

each : (cs : List Case) → ((room : ℕ) → map (given room) cs ≡ map (wanted room) cs) → All cs
each [] e = tt
each (c ∷ cs) e = (by_definition c (λ room. same_first (e room)), each cs (λ room. same_rest (e room)))

pub columns_written : All columns
unfolding spell spell_in width bit_length bits_in packed bytes_of rows_bits bits_of num_of num_bytes stats_of reduce fold_from gcd euclid spell_head line_at trained rising height slope_of nearer residuals residuals_from spell_line body bitpacked blockwise blocks blocks_in block_area block_entry block_width block_residuals joined footer written known chosen size_of block_size block_sizes saving exponent_of last_reached power_bounds reaches in_f32 nearest
columns_written = each columns (λ room. refl)
