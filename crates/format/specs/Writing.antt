-- Sizes, the choice of a codec, and writing.
-- Assumes nothing.
use Rattle.std.specs.Prelude.{ℕ, zero, suc, ◌+◌, ◌-◌, ◌*◌, ◌^◌, List, [], ◌∷◌, ltb, leb, length, Option, Some, None}
use Rattle.format.specs.declared.ColumnStats.{ColumnStats}
use Rattle.format.specs.Outcome.{Outcome, Outcome.value, Outcome.refusal, ◌>>=◌, ◌>>◌, demand, pick}
use Rattle.format.specs.Word.{bytes_for}
use Rattle.format.specs.Packing.{width}
use Rattle.format.specs.Stats.{stats_of, count_of, spell_head}
use Rattle.format.specs.Line.{trained, spell_line}
use Rattle.format.specs.Bodies.{linear_line, linear_width, blocks, block_width, column_by}
use Rattle.format.specs.Saving.{saving}

-- ---- sizes, without the code byte

-- a block's share of Blockwise's size
unfoldable pub block_size : List ℕ → ℕ
block_size ys = 1 + length (spell_line (trained ys)) + bytes_for (block_width ys * length ys)

-- the shares of some blocks, added up
unfoldable pub block_sizes : List (List ℕ) → ℕ
block_sizes [] = 0
block_sizes (b ∷ bs) = block_size b + block_sizes bs

-- a codec's size by its number; none where it does not apply. Blockwise is sized on blocks of the raw values, and never below 0
unfoldable pub size_of : (codec : ℕ) → ColumnStats → List ℕ → Option ℕ
size_of zero s vs = Some (length (spell_head s) + bytes_for (width (count_of s) * s.rows))
size_of (suc zero) s vs =
    pick (ltb (length vs) 512) None
    (Some (length (spell_head s) + length (spell_line (linear_line vs)) + 1 + bytes_for (linear_width vs * s.rows)))
size_of (suc (suc c)) s vs = Some (4 + length (spell_head s) + block_sizes (blocks vs) - saving s.gcd s.rows)

-- ---- choosing

-- a codec and its size
pub record Sized : Type 0 where
  pub codec : ℕ
  pub size : ℕ

-- a codec whose size is known
abbrev pub sized : ℕ → Option ℕ → Option Sized
sized c None = None
sized c (Some n) = Some (record { codec = c; size = n })

-- the smaller of two, the first of equals
abbrev pub smaller : Option Sized → Option Sized → Option Sized
smaller None b = b
smaller (Some a) None = Some a
smaller (Some a) (Some b) = pick (leb a.size b.size) (Some a) (Some b)

-- the smallest of a list; of equals, the one that is listed first
unfoldable pub chosen : (size : ℕ → Option ℕ) → List ℕ → Option Sized
chosen size [] = None
chosen size (c ∷ cs) = smaller (sized c (size c)) (chosen size cs)

-- ---- writing

-- each byte of a codec list is at most 2; else its first other place, counted from i, is refused
unfoldable pub known : (i : ℕ) → List ℕ → Outcome (Unit {0})
known i [] = value tt
known i (c ∷ cs) = demand (leb c 2) 2 (i ∷ []) >> known (suc i) cs

-- the codec of a choice; no choice is refused
abbrev pub codec_of : Option Sized → Outcome ℕ
codec_of None = refusal 3 []
codec_of (Some s) = value s.codec

-- writing a list of values by a list of codecs, into an output of so many bytes
unfoldable pub written : (vs cs : List ℕ) (room : ℕ) → Outcome (List ℕ)
written vs cs room = do
  demand (ltb (length vs) (2 ^ 32)) 1 []
  known 0 cs
  codec ← codec_of (chosen (λ c. size_of c (stats_of vs) vs) cs)
  let column = column_by codec vs
  demand (leb (length column) room) 4 (length column ∷ [])
  value column
