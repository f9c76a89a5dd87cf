-- The way through a text, from chunk to chunk, over any value that says where the way stands: what one call hands out, and what call after
-- call does.
-- Assumes nothing.
use Rattle.std.specs.Prelude.{ℕ, zero, suc, ◌≡◌, List, [], ◌++◌, ltb, length}
use Rattle.std.proofs.lemmas.List.Edits.{sets}
use Rattle.io.specs.Counts.{IsPrefixLen}
use Rattle.format.specs.Outcome.{pick}

-- a text's way: the room that a chunk asks for, what is still to be written, the chunk that comes next in so much room, the way behind it,
-- and which ways there are
pub record Walk (W : Type 0) : Type 1 where
  pub most : ℕ
  pub rest : W → List ℕ
  pub piece : W → (room : ℕ) → List ℕ
  pub behind : W → (room : ℕ) → W
  pub Stands : W → Type 0

-- what is handed out: nothing where there is too little room
abbrev pub handed_text : {W : Type 0} → Walk W → W → (room : ℕ) → List ℕ
handed_text k w room = pick (ltb room k.most) [] (k.piece w room)

-- the way from there on
abbrev pub handed_way : {W : Type 0} → Walk W → W → (room : ℕ) → W
handed_way k w room = pick (ltb room k.most) w (k.behind w room)

-- a chunk's length and the way behind it, and the buffer before and after; what was left is the chunk, and then what is left now
pub record HandedAs {W : Type 0} (k : Walk W) (w : W) (bytes : ℕ) (next : W) (old new : List ℕ) : Type 0 where
  pub long : bytes ≡ length (handed_text k w (length old))
  pub way : next ≡ handed_way k w (length old)
  pub text : new ≡ sets old 0 (handed_text k w (length old))
  pub counts : IsPrefixLen bytes new
  pub whole : k.rest w ≡ handed_text k w (length old) ++ k.rest next
  pub stands : k.Stands next

-- what so many calls hand out, one behind the other
unfoldable pub handed_all : (turns : ℕ) {W : Type 0} → Walk W → W → (room : ℕ) → List ℕ
handed_all zero k w room = []
handed_all (suc turns) k w room = handed_text k w room ++ handed_all turns k (handed_way k w room) room
