-- What Blockwise's estimate takes off for a gcd. The crate works it out in f32, so this is what f32 makes of whole numbers.
-- Assumes nothing.
use Rattle.std.specs.Prelude.{ℕ, suc, ◌+◌, ◌-◌, ◌*◌, ◌/◌, ◌%◌, ◌^◌, Bool, List, [], ◌∷◌, ltb, leb}
use Rattle.format.specs.Outcome.{pick}
use Rattle.format.specs.Packing.{bit_length}

-- ---- f32

-- n / unit as the nearest whole number; halfway between two, as the even one
unfoldable pub nearest : (n unit : ℕ) → ℕ
nearest n unit =
    pick (ltb (2 * (n % unit)) unit) (n / unit)
    (pick (ltb unit (2 * (n % unit))) (n / unit + 1) (n / unit + n / unit % 2))

-- a whole number below 2^127 as f32: the nearest multiple of the unit that leaves it 24 bits
unfoldable pub in_f32 : ℕ → ℕ
in_f32 n =
    let unit = 2 ^ (bit_length n - 24) in
    nearest n unit * unit

-- a whole number is at least the positive f32 of some bits: the lower 23 follow a leading 1, and the upper ones, less 150, are the exponent of the last
unfoldable pub reaches : (n bits : ℕ) → Bool
reaches n bits = leb ((2 ^ 23 + bits % 2 ^ 23) * 2 ^ (bits / 2 ^ 23)) (n * 2 ^ 150)

-- ---- the exponent

-- for each exponent from 0 to 64 the bits of the least f32 whose log2, rounded to f32, is at least that exponent. Taken from the build that docs/DIFFERENCES.md names
unfoldable pub power_bounds : List ℕ
power_bounds =
    0x3f800000 ∷ 0x40000000 ∷ 0x40800000 ∷ 0x40ffffff ∷ 0x417fffff ∷ 0x41fffffe ∷ 0x427ffffe ∷ 0x42fffffe
    ∷ 0x437ffffe ∷ 0x43fffffb ∷ 0x447ffffb ∷ 0x44fffffb ∷ 0x457ffffb ∷ 0x45fffffb ∷ 0x467ffffb ∷ 0x46fffffb
    ∷ 0x477ffffb ∷ 0x47fffff5 ∷ 0x487ffff5 ∷ 0x48fffff5 ∷ 0x497ffff5 ∷ 0x49fffff5 ∷ 0x4a7ffff5 ∷ 0x4afffff5
    ∷ 0x4b7ffff5 ∷ 0x4bfffff5 ∷ 0x4c7ffff5 ∷ 0x4cfffff5 ∷ 0x4d7ffff5 ∷ 0x4dfffff5 ∷ 0x4e7ffff5 ∷ 0x4efffff5
    ∷ 0x4f7ffff5 ∷ 0x4fffffea ∷ 0x507fffea ∷ 0x50ffffea ∷ 0x517fffea ∷ 0x51ffffea ∷ 0x527fffea ∷ 0x52ffffea
    ∷ 0x537fffea ∷ 0x53ffffea ∷ 0x547fffea ∷ 0x54ffffea ∷ 0x557fffea ∷ 0x55ffffea ∷ 0x567fffea ∷ 0x56ffffea
    ∷ 0x577fffea ∷ 0x57ffffea ∷ 0x587fffea ∷ 0x58ffffea ∷ 0x597fffea ∷ 0x59ffffea ∷ 0x5a7fffea ∷ 0x5affffea
    ∷ 0x5b7fffea ∷ 0x5bffffea ∷ 0x5c7fffea ∷ 0x5cffffea ∷ 0x5d7fffea ∷ 0x5dffffea ∷ 0x5e7fffea ∷ 0x5effffea
    ∷ 0x5f7fffea ∷ []

-- the last of some bounds, counted from k, that a number reaches; what was last before, where it reaches none
unfoldable pub last_reached : (n last k : ℕ) → List ℕ → ℕ
last_reached n last k [] = last
last_reached n last k (b ∷ bs) = last_reached n (pick (reaches n b) k last) (suc k) bs

-- the exponent of a gcd: the last power of two whose bound the rounded gcd reaches
unfoldable pub exponent_of : (gcd : ℕ) → ℕ
exponent_of gcd = last_reached (in_f32 gcd) 0 0 power_bounds

-- ---- the saving

-- what a gcd is thought to save over so many rows: its exponent in bits a row, in whole bytes. Rows and product are rounded; the eighth has the product's bits, and is exact
unfoldable pub saving : (gcd rows : ℕ) → ℕ
saving gcd rows = in_f32 (exponent_of gcd * in_f32 rows) / 8
