-- A block in the front of a buffer of 512: what fitting it says, what its bytes take, and where they go.
--     part_of, fit_of, places_of, placed_back     a buffer's front for a block
--     part_long, part_few, fit_most, takes_of                   what a block takes
--     room_of, entry_room, placed_of                            a fitted block written
-- Assumes nothing.
use Prim.Native.Nat.{ℕ, ◌+◌, ◌*◌, ◌≤◌}
use mathlib.Core.Path.{◌≡◌, sym, ap, ◌∙◌}
use mathlib.Core.List.{List, [], ◌∷◌, ◌++◌}
use native.Mathlib.Omega.{arith}
use lib.ListN.{length, take, drop, length-map, length-drop}
use lib.Seq.{length-take-le}
use Rattle.format.specs.Outcome.{Wrote}
use Rattle.format.specs.Word.{bytes_for}
use Rattle.format.specs.Packing.{packed}
use Rattle.format.specs.Line.{spell_line}
use Rattle.format.specs.Bodies.{block_area, block_entry}
use Rattle.format.proofs.Lists.{front_length}
use Rattle.format.proofs.WrittenBlocks.{length_area, residuals_fit}
use Rattle.blockwise_estimator.specs.declared.Fit.{Fit}
use Rattle.blockwise_estimator.specs.declared.Fronts.{Fronts}
use Rattle.blockwise_estimator.specs.Writer.{normals, Part, Fitted, BlockTakes, Room, Places, Placed}
use Rattle.format.proofs.BlockBytes.{block_width_lem, entry_length}
use Rattle.blockwise_estimator.proofs.Blocks.{residuals_count}

-- ---- the front of a buffer of 512

-- what is asked and told of a front is what is asked and told of its size
pub part_of : {minimum gcd : ℕ} {values : List ℕ} {at size : ℕ} (buffer : List ℕ) → length buffer ≡ 512 → Part minimum gcd values at size → Part minimum gcd values at (length (take size buffer))
part_of {size = size} buffer e p = rw (front_length size buffer e p.few) p

pub fit_of : (size : ℕ) (buffer xs rows : List ℕ) (fit : Fit) → length buffer ≡ 512 → size ≤ 512 → Fitted (take (length (take size buffer)) xs) rows fit → Fitted (take size xs) rows fit
fit_of size buffer xs rows fit e h f = rw (front_length size buffer e h) at f

pub places_of : (size : ℕ) (buffer xs out : List ℕ) (p q : ℕ) → length buffer ≡ 512 → size ≤ 512 → Places (take size xs) out p q → Places (take (length (take size buffer)) xs) out p q
places_of size buffer xs out p q e h f = rw (front_length size buffer e h) f

pub placed_back : (size : ℕ) (buffer xs old : List ℕ) (p q : ℕ) (new : List ℕ) (next : Fronts) → length buffer ≡ 512 → size ≤ 512
    → Placed (take (length (take size buffer)) xs) old p q new next → Placed (take size xs) old p q new next
placed_back size buffer xs old p q new next e h f = rw (front_length size buffer e h) at f

-- ---- what a block takes

pub part_long : {minimum gcd : ℕ} {values : List ℕ} {at size : ℕ} → Part minimum gcd values at size → length (take size (drop at (normals minimum gcd values))) ≡ size
part_long {minimum} {gcd} {values} {at} {size} p =
    length-take-le size (drop at (normals minimum gcd values)) (simp (length-drop, length-map) (omega (arith, p.inside)))

pub part_few : {minimum gcd : ℕ} {values : List ℕ} {at size : ℕ} → Part minimum gcd values at size → length (take size (drop at (normals minimum gcd values))) ≤ 512
part_few p = omega (arith, part_long p, p.few)

pub fit_most : {ys rows : List ℕ} {fit : Fit} → Fitted ys rows fit → fit.bits ≤ 64
fit_most {ys} f = omega (arith, f.bits, block_width_lem ys)

-- a fitted block's rows packed; its line and the width byte
pub takes_of : (size area n : ℕ) {ys rows : List ℕ} {fit : Fit} → length ys ≡ size → Fitted ys rows fit → area ≡ bytes_for (fit.bits * size) → n ≡ length (spell_line fit.line)
    → BlockTakes ys (record { area = area; footer = n + 1 })
takes_of size area n {ys} {rows} {fit} long f packs fields =
    record {
      packs = packs ∙ rw (f.bits, ← long) (sym (length_area ys));
      fields = rw (fields, f.line) (sym (entry_length ys));
    }

-- ---- a fitted block written

-- its rows can be packed where its area has room
pub room_of : {ys rows out : List ℕ} {fit : Fit} {at : ℕ} → length ys ≤ 512 → Fitted ys rows fit → at + length (block_area ys) ≤ length out → Room fit.bits rows out at
room_of {ys} {rows} {out} {fit} {at} few f room =
    rw (f.left, f.bits)
    (record {
      few = omega (arith, residuals_count ys);
      most = block_width_lem ys;
      fits = residuals_fit ys;
      room = rw (residuals_count ys, ← length_area ys) room;
    })

-- its line and the width byte can be written where its entry has room
pub entry_room : {ys rows : List ℕ} {fit : Fit} (q n : ℕ) → Fitted ys rows fit → q + length (block_entry ys) ≤ n → q + length (spell_line fit.line) + 1 ≤ n
entry_room {ys} q n f h = rw f.line (omega (arith, entry_length ys))

-- its rows packed, then its entry
pub placed_of : {ys rows old mid new : List ℕ} {fit : Fit} {p q np nq : ℕ} → Fitted ys rows fit → Wrote old p (packed fit.bits rows) mid np
    → Wrote mid q (spell_line fit.line ++ (fit.bits ∷ [])) new nq → Placed ys old p q new (record { area = np; footer = nq })
unfolding block_area block_entry
placed_of {ys} {rows} {old} {mid} {new} {fit} {p} {q} f a b =
    let area : packed fit.bits rows ≡ block_area ys = rw (f.left, f.bits) in
    let entry : spell_line fit.line ++ (fit.bits ∷ []) ≡ block_entry ys = rw (f.line, f.bits) in
    record {
      behind_area = a.ends ∙ ap (λ (l : List ℕ). p + length l) area;
      behind_entry = b.ends ∙ ap (λ (l : List ℕ). q + length l) entry;
      list = b.list ∙ rw (a.list, area, entry);
    }
