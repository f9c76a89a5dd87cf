-- What sheet 2 accepts consists of its parts, one after another: every byte belongs to just one.
--     spelled_stands, head_stands, fields_stand, blocks_stand      fields that were read and have no longer spelling stand in their shortest one
--     two_parted                                                   the theorem
-- Assumes nothing.
use Rattle.std.specs.Option.{option_or}
use Rattle.std.specs.Prelude.{Option, Some, None}
use mathlib.Core.Path.{◌≡◌, refl, sym, ap, ap₂, ◌∙◌, subst}
use mathlib.Core.Bool.{Bool, true, false}
use mathlib.Core.List.{List, [], ◌∷◌, ◌++◌, append_assoc, append-nil}
use Prim.Native.Nat.{ℕ, zero, suc, ◌+◌, ◌-◌, ◌*◌, ◌%◌, ◌^◌, ◌≤◌, min}
use native.Mathlib.Numerals.{add-one}
use native.Mathlib.Omega.{arith}
use lib.Dec.{ltb}
use lib.ListN.{length, take, drop, take-append-drop, length-take, drop_of_length-le}
use lib.Seq.{drop-cons, drop-append-le, drop-drop}
use borrow.Author.Tests.{ltb-false}
use Rattle.format.specs.declared.Column.{Column}
use Rattle.format.specs.declared.Fields.{Fields}
use Rattle.format.specs.declared.Head.{Head}
use Rattle.format.specs.Outcome.{Outcome.value, pick}
use Rattle.format.specs.Word.{bytes_for}
use Rattle.format.specs.Varint.{spell, read_varint}
use Rattle.format.specs.Stats.{read_head}
use Rattle.format.specs.Bodies.{block_count, joined}
use Rattle.format.specs.Opening.{Loaded, Table, read_width, read_fields, read_blocks, opened}
use Rattle.format.specs.Sheets.{lower, unclaimed, overfull, Ending, last_fields, ending, offending, clean, strict, under_sheet, opened_under, entries_of, part_bytes}
use Rattle.format.proofs.Outcomes.{not_value, value_same, by_step, by_demand}
use Rattle.format.proofs.Varints.{spelled_stands}
use Rattle.format.proofs.LineFields.{width_read}
use Rattle.format.proofs.Openings.{Begun, OpensBitpacked, OpensLinear, OpensBlockwise, bitpacked_of, linear_of, blockwise_of, footer_end, footer_start, by_opening}
use Rattle.format.proofs.WrittenBlocks.{joined-append}
use Rattle.format.proofs.Sheets.{by_unit}

-- ---- fields without a longer spelling

-- the bytes of some parts, one after another
abbrev whole : List (List ℕ) → List ℕ
whole parts = joined (λ (part : List ℕ). part) parts

-- no longer spelling among some is none among each
first_shortest : (p q : Option ℕ) → option_or p q ≡ None → (p ≡ None) × (q ≡ None)
first_shortest None q e = (refl, e)
first_shortest (Some offset) q e = absurd (let z : ◌≡◌ {A = ℕ} 0 1 = cc in omega arith)

-- a head
head_stands : (s : List ℕ) (h : Head) → read_head s ≡ value h → h.longer ≡ None
    → drop 1 s ≡ spell h.minimum ++ (spell h.gcd ++ (spell h.count ++ (spell h.rows ++ drop h.next s)))
unfolding read_head
head_stands s h e short =
    by_step (read_varint s 1) _ e λ m at_m e.
    by_step (read_varint s m.next) _ e λ g at_g e.
    by_demand (ltb 0 g.value) 7 [] _ e λ step e.
    by_step (read_varint s g.next) _ e λ c at_c e.
    by_demand (ltb (m.value + c.value * g.value) (2 ^ 64)) 8 [] _ e λ bounds e.
    by_step (read_varint s c.next) _ e λ r at_r e.
    by_demand (ltb r.value (2 ^ 32)) 8 [] _ e λ few e.
    let same = value_same e in
    let one = first_shortest m.longer _ (ap (λ (k : Head). k.longer) same ∙ short) in
    let two = first_shortest g.longer _ one.1 in
    let three = first_shortest c.longer r.longer two.1 in
    subst (λ (k : Head). drop 1 s ≡ spell k.minimum ++ (spell k.gcd ++ (spell k.count ++ (spell k.rows ++ drop k.next s)))) same
    (spelled_stands s 1 m at_m one.0
    ∙ ap (λ (l : List ℕ). spell m.value ++ l)
    (spelled_stands s m.next g at_g two.0
    ∙ ap (λ (l : List ℕ). spell g.value ++ l)
    (spelled_stands s g.next c at_c three.0
    ∙ ap (λ (l : List ℕ). spell c.value ++ l) (spelled_stands s c.next r at_r three.1))))

-- a line and its width
fields_stand : (s : List ℕ) (at : ℕ) (f : Fields) → read_fields s at ≡ value f → f.longer ≡ None
    → drop at s ≡ spell f.line.slope ++ (spell f.line.intercept ++ (f.bits ∷ drop f.next s))
unfolding read_fields
fields_stand s at f e short =
    by_step (read_varint s at) _ e λ m at_m e.
    by_step (read_varint s m.next) _ e λ b at_b e.
    by_step (read_width s b.next) _ e λ w at_w e.
    let same = value_same e in
    let one = first_shortest m.longer b.longer (ap (λ (g : Fields). g.longer) same ∙ short) in
    let bits = width_read s b.next w at_w in
    let byte : drop b.next s ≡ w ∷ drop (b.next + 1) s = rw add-one (drop-cons s b.next 0 bits.within ∙ ap (λ (x : ℕ). x ∷ drop (suc b.next) s) bits.byte) in
    subst (λ (g : Fields). drop at s ≡ spell g.line.slope ++ (spell g.line.intercept ++ (g.bits ∷ drop g.next s))) same
    (spelled_stands s at m at_m one.0
    ∙ ap (λ (l : List ℕ). spell m.value ++ l)
    (spelled_stands s m.next b at_b one.1 ∙ ap (λ (l : List ℕ). spell b.value ++ l) byte))

-- the fields of k blocks, up to the offset behind the last one's
blocks_stand : (k : ℕ) (s : List ℕ) (at start rows bits : ℕ) (t : Table) (f : ℕ × ℕ) → read_blocks k s at start rows ≡ value t → t.longer ≡ None
    → last_fields k s bits at ≡ value f → drop at s ≡ whole (entries_of t.blocks) ++ drop f.1 s
unfolding read_blocks last_fields entries_of joined
blocks_stand zero s at start rows bits t f e short last =
    subst (λ (x : Table). drop at s ≡ whole (entries_of x.blocks) ++ drop f.1 s) (value_same e) (ap (λ (g : ℕ × ℕ). drop g.1 s) (value_same last))
blocks_stand (suc k) s at start rows bits t f e short last =
    by_step (read_fields s at) _ e λ g at_g e.
    by_step (read_blocks k s g.next (start + bytes_for (g.bits * min rows 512)) (rows - 512)) _ e λ u at_u e.
    let same = value_same e in
    let one = first_shortest g.longer u.longer (ap (λ (x : Table). x.longer) same ∙ short) in
    let rest : last_fields k s g.bits g.next ≡ value f = rw at_g at last in
    let later = whole (entries_of u.blocks) in
    let a = spell g.line.slope in
    let b = spell g.line.intercept in
    let here : drop at s ≡ (a ++ (b ++ (g.bits ∷ later))) ++ drop f.1 s =
    fields_stand s at g at_g one.0
    ∙ ap (λ (l : List ℕ). a ++ (b ++ (g.bits ∷ l))) (blocks_stand k s g.next _ (rows - 512) g.bits u f at_u one.1 rest)
    ∙ simp append_assoc in
    subst (λ (x : Table). drop at s ≡ whole (entries_of x.blocks) ++ drop f.1 s) same here

-- ---- what offends nothing

clean_none : (a : Option ℕ) → clean a ≡ value tt → a ≡ None
clean_none None e = refl
clean_none (Some offset) e = absurd (not_value e)

lower_none : (a b : Option ℕ) → lower a b ≡ None → (a ≡ None) × (b ≡ None)
lower_none None b e = (refl, e)
lower_none (Some a) None e = absurd (let z : ◌≡◌ {A = ℕ} 0 1 = cc in omega arith)
lower_none (Some a) (Some b) e = absurd (let z : ◌≡◌ {A = ℕ} 0 1 = cc in omega arith)

unclaimed_empty : (from to : ℕ) → unclaimed from to ≡ None → to ≤ from
unclaimed_empty from to e = go (ltb from to) refl e
  where
    go : (t : Bool) → ltb from to ≡ t → pick t (Some from) None ≡ None → to ≤ from
    go true test e = absurd (let z : ◌≡◌ {A = ℕ} 0 1 = cc in omega arith)
    go false test e = ltb-false from to test

-- a column without an offending byte has no longer spelling, and no bytes between its area and the next part, nor behind that
record Faultless (col : Column) (p : Option ℕ) (e : Ending) : Type 0 where
  spelled : p ≡ None
  resumed : e.resumes ≤ col.start + col.size
  later : e.later ≡ None

faultless : (s : List ℕ) (col : Column) (p : Option ℕ) (e : Ending) → clean (offending s col p e) ≡ value tt → Faultless col p e
faultless s col p e met =
    let end = col.start + col.size in
    let filled = overfull s (end - 1) (e.bits * col.rows % 8) in
    let gap = unclaimed end e.resumes in
    let one = lower_none p (lower filled (lower gap e.later)) (clean_none _ met) in
    let two = lower_none filled (lower gap e.later) one.1 in
    let three = lower_none gap e.later two.1 in
    record { spelled = one.0; resumed = unclaimed_empty end e.resumes three.0; later = three.1 }

-- ---- the parts

-- code byte and head stand at the front
begun_stands : (s : List ℕ) (code : ℕ) (h : Head) → Begun s code h → h.longer ≡ None
    → s ≡ code ∷ (spell h.minimum ++ (spell h.gcd ++ (spell h.count ++ (spell h.rows ++ drop h.next s))))
begun_stands s code h b short = drop-cons s 0 0 b.some ∙ ap₂ (λ (x : ℕ) (l : List ℕ). x ∷ l) b.byte (head_stands s h b.head short)

-- an area stands before what comes behind it
area_stands : (s : List ℕ) (at size : ℕ) → drop at s ≡ take size (drop at s) ++ drop (at + size) s
area_stands s at size = sym (take-append-drop size (drop at s)) ∙ ap (λ (l : List ℕ). take size (drop at s) ++ l) (drop-drop size at s)

-- nothing stands behind the end
area_last : (s : List ℕ) (at size : ℕ) → length s ≤ at + size → drop at s ≡ take size (drop at s) ++ []
area_last s at size end = area_stands s at size ∙ ap (λ (l : List ℕ). take size (drop at s) ++ l) (drop_of_length-le s end)

bitpacked_parted : (s : List ℕ) (h : Head) → OpensBitpacked s h → strict s (bitpacked_of h).column (bitpacked_of h).longer ≡ value tt → s ≡ whole (part_bytes s (bitpacked_of h))
unfolding strict ending joined
bitpacked_parted s h f met =
    let fine = faultless s (bitpacked_of h).column h.longer _ met in
    begun_stands s 0 h f.begun fine.spelled
    ∙ ap (λ (l : List ℕ). 0 ∷ (spell h.minimum ++ (spell h.gcd ++ (spell h.count ++ (spell h.rows ++ l)))))
    (area_last s h.next _ fine.resumed)

linear_parted : (s : List ℕ) (h : Head) (g : Fields) → OpensLinear s h g → strict s (linear_of h g).column (linear_of h g).longer ≡ value tt → s ≡ whole (part_bytes s (linear_of h g))
unfolding strict ending joined
linear_parted s h g f met =
    let fine = faultless s (linear_of h g).column (linear_of h g).longer _ met in
    let short = first_shortest h.longer g.longer fine.spelled in
    begun_stands s 1 h f.begun short.0
    ∙ ap (λ (l : List ℕ). 1 ∷ (spell h.minimum ++ (spell h.gcd ++ (spell h.count ++ (spell h.rows ++ l)))))
    (fields_stand s h.next g f.fields short.1
    ∙ ap (λ (l : List ℕ). spell g.line.slope ++ (spell g.line.intercept ++ (g.bits ∷ l))) (area_last s g.next _ fine.resumed))

blockwise_parted : (s : List ℕ) (h : Head) (room : ℕ) (t : Table) → OpensBlockwise s h room t → strict s (blockwise_of h t).column (blockwise_of h t).longer ≡ value tt
    → s ≡ whole (part_bytes s (blockwise_of h t))
unfolding strict ending joined
blockwise_parted s h room t f met =
    let end = footer_end s in
    let start = footer_start s in
    let area = take t.area (drop h.next s) in
    let blocks = entries_of t.blocks in
    by_step (ending (blockwise_of h t).column.codec h.count h.rows s) _ met λ e there met.
    by_step (last_fields (block_count h.rows) (take end s) 0 start) _ there λ g last there.
    let fine = rw (← value_same there) at (faultless s (blockwise_of h t).column (blockwise_of h t).longer e met) in
    let short = first_shortest h.longer t.longer fine.spelled in
    let seam : h.next + t.area ≡ start = omega (arith, fine.resumed, f.area) in
    let inside : length (take end s) ≡ end = length-take end s ∙ omega (arith, f.four) in
    let past : length (take end s) ≤ g.1 = omega (arith, inside, unclaimed_empty g.1 end fine.later) in
    let none_left : drop g.1 (take end s) ≡ [] = drop_of_length-le (take end s) past in
    let footer : drop start (take end s) ≡ whole blocks = blocks_stand (block_count h.rows) (take end s) start 0 h.rows 0 t g f.blocks short.1 last ∙ rw none_left (append-nil (whole blocks)) in
    let behind : drop start s ≡ whole blocks ++ (drop end s ++ []) =
    ap (drop start) (sym (take-append-drop end s)) ∙ drop-append-le start (take end s) (drop end s) (omega (arith, inside)) ∙ ap (λ (l : List ℕ). l ++ drop end s) footer ∙ ap (λ (l : List ℕ). whole blocks ++ l) (sym (append-nil (drop end s))) in
    begun_stands s 2 h f.begun short.0
    ∙ ap (λ (l : List ℕ). 2 ∷ (spell h.minimum ++ (spell h.gcd ++ (spell h.count ++ (spell h.rows ++ l)))))
    (area_stands s h.next t.area
    ∙ ap (λ (l : List ℕ). area ++ l) (ap (λ (k : ℕ). drop k s) seam ∙ behind ∙ sym (joined-append (λ (part : List ℕ). part) blocks (drop end s ∷ []))))

-- under sheet 2 the bytes are the parts, one after another: each byte belongs to just one
pub two_parted : (s : List ℕ) (room : ℕ) (o : Loaded) → opened_under 2 s room ≡ value o → s ≡ joined (λ (part : List ℕ). part) (part_bytes s o)
unfolding under_sheet
two_parted s room o e =
    by_step (opened s room) _ e λ p is e.
    by_unit (strict s p.column p.longer) (value p) e λ met same.
    subst (λ (x : Loaded). s ≡ whole (part_bytes s x)) (value_same same)
    (by_opening (λ (x : Loaded). strict s x.column x.longer ≡ value tt → s ≡ whole (part_bytes s x)) s room
    (bitpacked_parted s)
    (linear_parted s)
    (λ (h : Head) (t : Table) (f : OpensBlockwise s h room t). blockwise_parted s h room t f)
    p is met)
