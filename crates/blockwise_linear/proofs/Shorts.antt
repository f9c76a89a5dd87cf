-- A varint that is spelled in as few bytes as it can be, as the short way reads it.
--     number_ends, tenth_bit        a byte before the tenth ends it; the tenth adds one bit
-- Assumes nothing.
use Rattle.std.specs.Prelude.{Option, None}
use mathlib.Core.Path.{◌≡◌, ◌∙◌}
use mathlib.Core.List.{List}
use Prim.Native.Nat.{ℕ, ◌+◌, ◌-◌, ◌*◌, ◌^◌, ◌≤◌, ◌<◌}
use native.Mathlib.Omega.{arith}
use lib.ListN.{length, get_or}
use Rattle.format.specs.declared.Field.{Field}
use Rattle.format.specs.Outcome.{Outcome, Outcome.value}
use Rattle.format.specs.Varint.{read_varint}
use Rattle.format.proofs.VarintLoops.{ReadingVarint, reading_last, tenth_ends}
use Rattle.vint.specs.Meaning.{spelled_by}

module _ {s : List ℕ} {at number scale pos used : ℕ} (r : ReadingVarint s at number scale pos used) (v : ℕ) (inside : pos < length s) where
  -- the number as a field that ends with the byte at pos
  abbrev short : Field
  short = record { value = v; next = pos + 1; used = pos + 1 - at; longer = None }

  ended : {p : Option ℕ} → p ≡ None
      → ◌≡◌ {A = Outcome Field} (value (record { value = v; next = pos + 1; used = used + 1; longer = p })) (value short)
  ended is =
      let behind : used + 1 ≡ pos + 1 - at = omega (arith, r.here) in
      rw (is, behind)

  pub number_ends : {b : ℕ} → b ≡ get_or s pos 0 → 128 ≤ b → b < 256 → v ≡ number + (b - 128) * scale → v < 2 ^ 64 → spelled_by at used b ≡ None
      → read_varint s at ≡ value short
  number_ends e d byte q m is = reading_last r v inside (rw (← e) d) (rw (← e) byte) (rw (← e) q) m ∙ ended (rw (← e) is)

  pub tenth_bit : 9 ≤ used → get_or s pos 0 ≡ 129 → v ≡ number + 2 ^ 63 → read_varint s at ≡ value short
  tenth_bit u e q = tenth_ends r v 1 u inside e (omega arith) (omega arith) ∙ ended (rw e)
