-- A search for the rows of a byte of the packed area, block after block.
-- Assumes nothing.
use Rattle.std.specs.Option.{option_or}
use Rattle.format.specs.declared.Refusal.{Refusal}
use Rattle.format.specs.Refusals.{answered_by}
use Rattle.std.specs.Prelude.{ℕ, ◌+◌, ◌≤◌, ◌<◌, ◌≡◌, List, Option, None, Result, Ok}
use Rattle.format.specs.declared.Block.{Block}
use Rattle.format.specs.declared.Codec.{Codec}
use Rattle.format.specs.declared.Codec.TheVariants.{Bitpacked, Linear, Blockwise}
use Rattle.format.specs.Bodies.{block_count}
use Rattle.format.specs.Outcome.{Outcome, Outcome.value, Outcome.refusal}
use Rattle.format.specs.Packing.{width}
use Rattle.format.specs.Parts.{run_owners, block_owners}
use Rattle.byte_owner.specs.declared.Search.{Search}

-- one that is over
abbrev pub ended : Result (Option (ℕ × ℕ)) Refusal → Search
ended answer = record { next = 0; left = 0; byte = 0; answer = answer }

-- the search for byte j of the area, by the codec: over at once where there is one run
unfoldable pub area_search : Codec → (count rows j : ℕ) → Search
area_search Bitpacked count rows j = ended (Ok (run_owners (record { start = 0; bits = width count; first = 0; rows = rows }) j))
area_search (Linear l w) count rows j = ended (Ok (run_owners (record { start = 0; bits = w; first = 0; rows = rows }) j))
area_search Blockwise count rows j = record { next = 0; left = block_count rows; byte = j; answer = Ok None }

-- an answer, or else that of the blocks that are left
abbrev pub or_left : Outcome (Option (ℕ × ℕ)) → Option (ℕ × ℕ) → Outcome (Option (ℕ × ℕ))
or_left (value o) rest = value (option_or o rest)
or_left (refusal number also) rest = refusal number also

-- what a search comes to, with a table
abbrev pub searched : (table : List Block) (rows : ℕ) → Search → Outcome (Option (ℕ × ℕ))
searched t rows w = or_left (answered_by w.answer) (block_owners t rows w.next w.left w.byte)

-- the blocks that are left are the last of so many rows; while there are any, none was found to have rows there
pub record Searching (rows : ℕ) (w : Search) : Type 0 where
  pub inside : w.next + w.left ≤ block_count rows
  pub none : 0 < w.left → w.answer ≡ Ok None
