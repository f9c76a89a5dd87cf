-- Laws of a recording's numbers and tests.
--     number_none, number_four, number_eight      a number that leaves the recording, and its bytes
--     header_is, record_is, listed_is             the header, a record and a row number
--     standing, placed_each                       a record's row numbers, and every record's
-- Assumes nothing.
use Prim.Native.Nat.{ℕ, zero, suc, ◌+◌, ◌*◌, ◌≤◌, ◌<◌}
use mathlib.Core.Path.{◌≡◌, refl, sym, ap, ◌∙◌}
use mathlib.Core.Bool.{Bool, true, false, ◌&&◌}
use mathlib.Core.List.{List}
use native.Mathlib.Numerals.{add-one}
use native.Mathlib.Omega.{arith}
use lib.Dec.{leb}
use lib.ListN.{length, get_or}
use borrow.Author.Tests.{le-leb, lt-leb}
use Rattle.std.specs.List.{list_all, range_with_len}
use Rattle.format.specs.declared.Recording.{Recording}
use Rattle.format.specs.declared.Recorded.{Recorded}
use Rattle.format.specs.Packing.{bytes_num}
use Rattle.format.specs.Replaying.{number_at, header_of, record_at, listed_at, placed, regions, is_recording}
use Rattle.format.proofs.Replays.{number_whole, number_step}

pub number_none : (n : ℕ) (s : List ℕ) (at : ℕ) → length s < at + n → 0 ≡ number_at n s at
unfolding number_at
number_none n s at h = rw (lt-leb (at + n) (length s) h)

-- no bytes
number_zero : (s : List ℕ) (at : ℕ) → at ≤ length s → number_at 0 s at ≡ 0
unfolding bytes_num
number_zero s at h = number_whole 0 s at (omega arith)

-- a byte k places behind an offset, and those behind it
behind : (n k : ℕ) (s : List ℕ) (at : ℕ) → at + k + suc n ≤ length s → number_at (suc n) s (at + k) ≡ get_or s (at + k) 0 + 256 * number_at n s (at + suc k)
behind n k s at h =
    let next : suc (at + k) ≡ at + suc k = omega arith in
    number_step n s (at + k) h ∙ ap (λ (i : ℕ). get_or s (at + k) 0 + 256 * number_at n s i) next

-- four bytes k places behind an offset, before some more
four_behind : (n k : ℕ) (s : List ℕ) (at : ℕ) → at + k + suc (suc (suc (suc n))) ≤ length s
    → number_at (suc (suc (suc (suc n)))) s (at + k)
    ≡ get_or s (at + k) 0 + 256 * (get_or s (at + suc k) 0 + 256 * (get_or s (at + suc (suc k)) 0 + 256 * (get_or s (at + suc (suc (suc k))) 0 + 256 * number_at n s (at + suc (suc (suc (suc k)))))))
four_behind n k s at h =
    let a = behind (suc (suc (suc n))) k s at h in
    let b = behind (suc (suc n)) (suc k) s at (omega arith) in
    let c = behind (suc n) (suc (suc k)) s at (omega arith) in
    let d = behind n (suc (suc (suc k))) s at (omega arith) in
    a ∙ rw (b, c, d) refl

pub number_four : (s : List ℕ) (at : ℕ) → at + 4 ≤ length s → get_or s at 0 + 256 * (get_or s (at + 1) 0 + 256 * (get_or s (at + 2) 0 + 256 * get_or s (at + 3) 0)) ≡ number_at 4 s at
number_four s at h =
    let here : at + 0 ≡ at = omega arith in
    let e : number_at 4 s (at + 0) ≡ get_or s (at + 0) 0 + 256 * (get_or s (at + 1) 0 + 256 * (get_or s (at + 2) 0 + 256 * (get_or s (at + 3) 0 + 256 * number_at 0 s (at + 4)))) = four_behind 0 0 s at (omega arith) in
    let none : number_at 0 s (at + 4) ≡ 0 = number_zero s (at + 4) h in
    sym ((rw here at e) ∙ rw none (omega arith))

pub number_eight : (s : List ℕ) (at : ℕ) → at + 8 ≤ length s → number_at 4 s at + 4294967296 * number_at 4 s (at + 4) ≡ number_at 8 s at
number_eight s at h =
    let here : at + 0 ≡ at = omega arith in
    let e : number_at 8 s (at + 0) ≡ get_or s (at + 0) 0 + 256 * (get_or s (at + 1) 0 + 256 * (get_or s (at + 2) 0 + 256 * (get_or s (at + 3) 0 + 256 * number_at 4 s (at + 4)))) = four_behind 4 0 s at (omega arith) in
    let f : number_at 8 s at ≡ get_or s at 0 + 256 * (get_or s (at + 1) 0 + 256 * (get_or s (at + 2) 0 + 256 * (get_or s (at + 3) 0 + 256 * number_at 4 s (at + 4)))) = rw here at e in
    let g = number_four s at (omega arith) in
    omega (arith, f, g)

-- ---- the header and a record

pub header_is : (s : List ℕ) {a b c d : ℕ} → a ≡ number_at 4 s 0 → b ≡ number_at 4 s 4 → c ≡ number_at 4 s 8 → d ≡ number_at 4 s 12
    → record { records = a; start = b; numbers = c; list = d } ≡ header_of s
unfolding header_of
header_is s {a} {b} {c} {d} p q r t = rw (p, q, r, t) refl

pub record_is : (h : Recording) (s : List ℕ) (k : ℕ) {a b c d e f : ℕ} → a ≡ number_at 8 s (h.start + 32 * k) → b ≡ number_at 8 s (h.start + 32 * k + 8)
    → c ≡ number_at 4 s (h.start + 32 * k + 16) → d ≡ number_at 4 s (h.start + 32 * k + 20) → e ≡ number_at 4 s (h.start + 32 * k + 24) → f ≡ number_at 4 s (h.start + 32 * k + 28)
    → ◌≡◌ {A = Recorded} (record { low = a; high = b; first = c; end = d; place = e; many = f }) (record_at h s k)
unfolding record_at
record_is h s k {a} {b} {c} {d} {e} {f} p q r t u v = rw (p, q, r, t, u, v) refl

pub listed_is : (h : Recording) (s : List ℕ) (j : ℕ) → number_at 4 s (h.list + 4 * j) ≡ listed_at h s j
unfolding listed_at
listed_is h s j = refl

-- ---- every record's row numbers

module _ (h : Recording) (s : List ℕ) where
  -- whether record k's stand in the list
  abbrev pub standing : ℕ → Bool
  standing k = leb ((record_at h s k).place + (record_at h s k).many) h.numbers

  pub placed_each : (k n : ℕ) → placed h s k n ≡ list_all standing (range_with_len k n)
  unfolding placed
  placed_each k zero = refl
  placed_each k (suc n) = rw add-one (ap (λ (t : Bool). standing k && t) (placed_each (suc k) n))

-- ---- whether a recording is one

pub not_long : (s : List ℕ) → length s < 16 → false ≡ is_recording s
unfolding is_recording
not_long s h = rw (lt-leb 16 (length s) h)

pub bad_regions : (s : List ℕ) {h : Recording} → 16 ≤ length s → h ≡ header_of s → regions h (length s) ≡ false → false ≡ is_recording s
unfolding is_recording
bad_regions s long is bad = rw (le-leb 16 (length s) long, ← is, bad)

pub by_records : (s : List ℕ) {h : Recording} {t : Bool} → 16 ≤ length s → h ≡ header_of s → regions h (length s) ≡ true → t ≡ placed h s 0 h.records → t ≡ is_recording s
unfolding is_recording
by_records s long is good e = rw (le-leb 16 (length s) long, ← is, good) e
