-- Names by their number: behind a list's first ones, in the footer, and how many there are.
--     nth_front, nth-behind, nth_some, nth_none       a name of two lists, one before the other; what a name that is there says
--     block_front, footer_front, footer-behind        a name of the footer
--     names_split, names_few, names-behind            all names are the head's and those behind it
-- Assumes nothing.
use Rattle.std.specs.Prelude.{Some, None}
use Prim.Native.Nat.{ℕ, zero, suc, ◌+◌, ◌-◌, ◌*◌, ◌/◌, ◌%◌, ◌^◌, ◌≤◌, ◌<◌}
use mathlib.Core.Path.{◌≡◌, refl, sym, ap, ◌∙◌}
use mathlib.Core.List.{List, [], ◌∷◌, ◌++◌}
use native.Mathlib.Omega.{arith}
use lib.ListN.{length, drop, length-append}
use Rattle.format.specs.declared.Codec.{Codec}
use Rattle.format.specs.declared.Codec.TheVariants.{Bitpacked, Linear, Blockwise}
use Rattle.format.specs.declared.PartName.{PartName}
use Rattle.format.specs.declared.PartName.TheVariants.{BlockSlope, BlockIntercept, BlockWidth, Spare, FooterLength}
use Rattle.format.specs.Bodies.{block_count}
use Rattle.format.specs.Parts.{head_names, names, block_names}
use Rattle.byte_part.specs.Walk.{nth, names_behind}

-- ---- lists of names

pub nth_front : (ns ms : List PartName) (p : ℕ) → p < length ns → nth (ns ++ ms) p ≡ nth ns p
nth_front [] ms p h = absurd (omega arith)
nth_front (n ∷ ns) ms zero h = refl
nth_front (n ∷ ns) ms (suc p) h = nth_front ns ms p (omega arith)

pub nth-behind : (ns ms : List PartName) (p q : ℕ) → length ns + q ≡ p → nth (ns ++ ms) p ≡ nth ms q
nth-behind [] ms p q e = ap (nth ms) (omega arith)
nth-behind (n ∷ ns) ms zero q e = absurd (omega arith)
nth-behind (n ∷ ns) ms (suc p) q e = nth-behind ns ms p q (omega arith)

-- a name that is there stands before the later ones
pub nth_some : (ns : List PartName) (p : ℕ) (n : PartName) → nth ns p ≡ Some n → (p < length ns) × (drop p ns ≡ n ∷ drop (p + 1) ns)
nth_some [] p n e = absurd (let z : ◌≡◌ {A = ℕ} 0 1 = cc in omega arith)
nth_some (m ∷ ns) zero n e =
    let same : m ≡ n = cc in
    (omega arith, ap (λ (k : PartName). k ∷ ns) same)
nth_some (m ∷ ns) (suc p) n e =
    let later = nth_some ns p n e in
    let one : suc p + 1 ≡ suc (p + 1) = omega arith in
    (omega (arith, later.0), later.1 ∙ ap (λ (k : ℕ). n ∷ drop k (m ∷ ns)) (sym one))

-- and behind the last there is none
pub nth_none : (ns : List PartName) (p : ℕ) → nth ns p ≡ None → drop p ns ≡ []
nth_none [] zero e = refl
nth_none [] (suc p) e = refl
nth_none (m ∷ ns) zero e = absurd (let z : ◌≡◌ {A = ℕ} 0 1 = cc in omega arith)
nth_none (m ∷ ns) (suc p) e = nth_none ns p e

-- ---- the footer

-- the field of a block by its number among three
abbrev pub block_name : (k field : ℕ) → PartName
block_name k zero = BlockSlope k
block_name k (suc zero) = BlockIntercept k
block_name k (suc (suc f)) = BlockWidth k

block_long : (b n : ℕ) → length (block_names b n) ≡ 3 * n
unfolding block_names
block_long b zero = refl
block_long b (suc n) = omega (arith, block_long (suc b) n)

-- three fields a block
pub block_front : (b n p : ℕ) → p < 3 * n → nth (block_names b n) p ≡ Some (block_name (b + p / 3) (p % 3))
unfolding block_names
block_front b zero p h = absurd (omega arith)
block_front b (suc n) zero h = ap (λ (k : ℕ). Some (BlockSlope k)) (omega arith)
block_front b (suc n) (suc zero) h = ap (λ (k : ℕ). Some (BlockIntercept k)) (omega arith)
block_front b (suc n) (suc (suc zero)) h = ap (λ (k : ℕ). Some (BlockWidth k)) (omega arith)
block_front b (suc n) (suc (suc (suc p))) h =
    let block : suc b + p / 3 ≡ b + suc (suc (suc p)) / 3 = omega arith in
    let field : p % 3 ≡ suc (suc (suc p)) % 3 = omega arith in
    block_front (suc b) n p (omega arith) ∙ ap (λ (k : ℕ). Some (block_name k (p % 3))) block ∙ ap (λ (f : ℕ). Some (block_name (b + suc (suc (suc p)) / 3) f)) field

abbrev pub footer_names : ℕ → List PartName
footer_names n = block_names 0 n ++ (Spare ∷ FooterLength ∷ [])

pub footer_front : (n p : ℕ) → p < 3 * n → nth (footer_names n) p ≡ Some (block_name (p / 3) (p % 3))
footer_front n p h =
    nth_front (block_names 0 n) (Spare ∷ FooterLength ∷ []) p (omega (arith, block_long 0 n)) ∙ block_front 0 n p h
    ∙ ap (λ (k : ℕ). Some (block_name k (p % 3))) (omega arith)

pub footer-behind : (n p : ℕ) → 3 * n ≤ p → nth (footer_names n) p ≡ nth (Spare ∷ FooterLength ∷ []) (p - 3 * n)
footer-behind n p h = nth-behind (block_names 0 n) (Spare ∷ FooterLength ∷ []) p (p - 3 * n) (omega (arith, block_long 0 n))

-- ---- all names

pub names_split : (codec : Codec) (rows : ℕ) → names codec rows ≡ head_names ++ names_behind codec rows
names_split Bitpacked rows = refl
names_split (Linear l w) rows = refl
names_split Blockwise rows = refl

-- their number can be counted
pub names_few : (codec : Codec) (rows : ℕ) → rows < 2 ^ 32 → length (names codec rows) < 2 ^ 40
names_few Bitpacked rows h = omega arith
names_few (Linear l w) rows h = omega arith
names_few Blockwise rows h = omega (arith, length-append (block_names 0 (block_count rows)) (Spare ∷ FooterLength ∷ []), block_long 0 (block_count rows))

pub names-behind : (codec : Codec) (rows p : ℕ) → 5 ≤ p → nth (names codec rows) p ≡ nth (names_behind codec rows) (p - 5)
names-behind codec rows p h = ap (λ (ns : List PartName). nth ns p) (names_split codec rows) ∙ nth-behind head_names (names_behind codec rows) p (p - 5) (omega arith)
