-- The way through a text, over any value that says where the way stands.
--     line_copied, line_fits         a line that was copied is the line, and has room
--     Onward                         what is left is the chunk, and then what is left behind it
--     handed_nothing, handed_by      too little room; room enough
--     handed_on                      the way behind a chunk
--     handed_determined              two answers that a contract allows coincide
--     Goes, all_handed               where each chunk shortens the way, all chunks are the text
-- Assumes nothing.
use Prim.Native.Nat.{ℕ, zero, suc, ◌+◌, ◌-◌, ◌≤◌, ◌<◌}
use mathlib.Core.Path.{◌≡◌, sym, ap, ◌∙◌}
use mathlib.Core.List.{List, [], ◌++◌}
use native.Mathlib.Nat.{zero-add}
use native.Mathlib.Omega.{arith}
use borrow.Author.Tests.{lt-ltb, le-ltb}
use lib.ListN.{length, take}
use lib.Seq.{length-sets}
use Rattle.io.specs.Counts.{IsPrefixLen}
use Rattle.format.specs.Outcome.{Wrote}
use Rattle.format.proofs.Stores.{front_of}
use Rattle.text.specs.Way.{Walk, HandedAs, handed_all}
use Rattle.text.proofs.Texts.{counts}

-- the bytes that a line's length counts are the line
pub line_copied : {old line l out new : List ℕ} {n end : ℕ} → Wrote old 0 l line n → IsPrefixLen n line → Wrote out 0 (take n line) new end → Wrote out 0 l new end
line_copied {old} {line} {l} {out} {new} {n} {end} w shown copied =
    let long : n ≡ length l = w.ends ∙ zero-add _ in
    let kept : length line ≡ length old = ap length w.list ∙ length-sets old 0 l in
    rw (front_of old line l n long w.list (omega (arith, shown.0))) at copied

-- and have room where a longest line has
pub line_fits : {line₀ l line : List ℕ} {n room : ℕ} → Wrote line₀ 0 l line n → length line₀ ≡ 128 → IsPrefixLen n line → 128 ≤ room → (n ≤ room) × (0 + length (take n line) ≤ room)
line_fits {line₀} {l} {line} w space shown free =
    let kept : length line ≡ length line₀ = ap length w.list ∙ length-sets line₀ 0 l in
    (omega (arith, shown), omega (arith, shown))

-- what is left, in room enough, is the chunk and then what is left behind it
pub record Onward {W : Type 0} (k : Walk W) (w : W) (room : ℕ) : Type 0 where
  pub whole : k.rest w ≡ k.piece w room ++ k.rest (k.behind w room)
  pub stands : k.Stands (k.behind w room)

module _ {W : Type 0} (k : Walk W) {w : W} {old : List ℕ} where
  pub handed_nothing : length old < k.most → k.Stands w → HandedAs k w 0 w old old
  handed_nothing little stands =
      let short = lt-ltb (length old) k.most little in
      record { long = rw short; way = rw short; text = rw short; counts = counts 0 old (omega arith); whole = rw short; stands = stands }

  pub handed_by : {next : W} {bytes : ℕ} {new : List ℕ} → k.most ≤ length old → Wrote old 0 (k.piece w (length old)) new bytes → bytes ≤ length old
      → next ≡ k.behind w (length old) → Onward k w (length old) → HandedAs k w bytes next old new
  handed_by {next} {bytes} {new} free wrote inside is on =
      let room = le-ltb (length old) k.most free in
      let kept : length new ≡ length old = ap length wrote.list ∙ length-sets old 0 (k.piece w (length old)) in
      record {
        long = wrote.ends ∙ zero-add _ ∙ rw room;
        way = is ∙ rw room;
        text = wrote.list ∙ rw room;
        counts = counts bytes new (omega arith);
        whole = on.whole ∙ rw (room, is);
        stands = rw is on.stands;
      }

  -- the way behind a chunk, in room enough
  pub handed_on : {next : W} {bytes : ℕ} {new : List ℕ} → k.most ≤ length old → HandedAs k w bytes next old new → next ≡ k.behind w (length old)
  handed_on free h = h.way ∙ rw (le-ltb (length old) k.most free)

-- a chunk, its length, the way behind it and the buffer afterwards are determined
pub handed_determined : {W : Type 0} {k : Walk W} {w next next' : W} {bytes bytes' : ℕ} {old new new' : List ℕ} → HandedAs k w bytes next old new → HandedAs k w bytes' next' old new'
    → (bytes ≡ bytes') × (next ≡ next') × (new ≡ new')
handed_determined p q = (p.long ∙ sym q.long, p.way ∙ sym q.way, p.text ∙ sym q.text)

-- what a way does in some room: it goes on, and becomes shorter until nothing is left
pub record Goes {W : Type 0} (k : Walk W) (room : ℕ) : Type 0 where
  pub free : k.most ≤ room
  pub on : (w : W) → k.Stands w → Onward k w room
  pub left : W → ℕ
  pub less : (w : W) → left (k.behind w room) ≤ left w - 1
  pub none : (w : W) → left w ≡ 0 → k.rest w ≡ []

-- so all chunks together are what was left, where there are calls enough
pub all_handed : {W : Type 0} {k : Walk W} {room : ℕ} (g : Goes k room) (turns : ℕ) (w : W) → k.Stands w → g.left w ≤ turns → handed_all turns k w room ≡ k.rest w
unfolding handed_all
all_handed g zero w stands enough = sym (g.none w (omega arith))
all_handed {W} {k} {room} g (suc turns) w stands enough =
    rw (le-ltb room k.most g.free) (ap (λ (l : List ℕ). k.piece w room ++ l)
    (all_handed g turns (k.behind w room) (g.on w stands).stands (omega (arith, g.less w)))
    ∙ sym (g.on w stands).whole)
