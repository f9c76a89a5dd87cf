-- Opening for a view, which keeps no block table: as under a sheet, but a Blockwise column is not for it.
-- Assumes nothing.
use Rattle.std.specs.Prelude.{ℕ, zero, suc, ◌+◌, ◌-◌, List, [], ◌∷◌, leb, length, drop}
use Rattle.format.specs.declared.Head.{Head}
use Rattle.format.specs.Outcome.{Outcome, Outcome.refusal, ◌>>=◌, ◌>>◌, demand}
use Rattle.format.specs.Packing.{bytes_num}
use Rattle.format.specs.Stats.{read_head}
use Rattle.format.specs.Opening.{Loaded, open_bitpacked, open_linear}
use Rattle.format.specs.Sheets.{under_sheet}

-- a Blockwise column is refused in the place of 11, whatever its rows: behind the footer's length, before its blocks
unfoldable pub view_blockwise : (s : List ℕ) → Head → Outcome Loaded
view_blockwise s h = do
  demand (leb (h.next + 4) (length s)) 10 []
  let end = length s - 4
  demand (leb (h.next + bytes_num (drop end s)) end) 10 []
  refusal 20 []

-- the body of a codec by its number
unfoldable pub view_body : (codec : ℕ) (s : List ℕ) → Head → Outcome Loaded
view_body zero s h = open_bitpacked s h
view_body (suc zero) s h = open_linear s h
view_body (suc (suc c)) s h = view_blockwise s h

-- opening some bytes for a view
unfoldable pub viewed : (s : List ℕ) → Outcome Loaded
viewed [] = refusal 5 []
viewed (c ∷ s) = do
  demand (leb c 2) 5 []
  h ← read_head (c ∷ s)
  view_body c (c ∷ s) h

-- the same under a sheet
abbrev pub viewed_under : (sheet : ℕ) (s : List ℕ) → Outcome Loaded
viewed_under sheet s = under_sheet sheet s (viewed s)
