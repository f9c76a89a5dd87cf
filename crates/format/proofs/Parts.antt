-- The parts of a column that opens: they follow one another over all its bytes, and each byte is in just one.
--     end_from, consecutive, end_append, end_late      where parts of some names end
--     part_skip, part_found                           finding the part of an offset
--     varint_whole                                    a varint that was read in the first bytes of some is read in all of them
--     blocks_alike                                    blocks read alike where their fields agree, whatever is left over behind them
--     Marks, opened_marks                             where the parts of a column that opens end
--     all_parted
-- Assumes nothing.
use Rattle.std.specs.Prelude.{Some}
use Prim.Native.Nat.{ℕ, zero, suc, ◌+◌, ◌-◌, ◌*◌, ◌^◌, ◌≤◌, ◌<◌, min}
use mathlib.Core.Path.{◌≡◌, refl, sym, ap, ◌∙◌, subst}
use mathlib.Core.Bool.{Bool, true, false}
use mathlib.Core.Logic.{⊎_elim}
use mathlib.Core.List.{List, [], ◌∷◌, ◌++◌}
use native.Mathlib.Omega.{arith}
use lib.Dec.{ltb, leb}
use lib.ListN.{length, take, drop, length-take, take-append-drop}
use lib.Seq.{get_or-take, drop-append-le, take-length}
use borrow.Author.Tests.{lt-ltb, le-ltb, le-leb, lt-leb}
use Rattle.format.specs.declared.Column.{Column}
use Rattle.format.specs.declared.Field.{Field}
use Rattle.format.specs.declared.Fields.{Fields}
use Rattle.format.specs.declared.Head.{Head}
use Rattle.format.specs.declared.PartName.{PartName}
use Rattle.format.specs.declared.PartName.TheVariants.{Code, Minimum, Gcd, Count, Rows, Slope, Intercept, Width, Area, Behind, BlockSlope, BlockIntercept, BlockWidth, Spare, FooterLength}
use Rattle.format.specs.declared.Part.{Part}
use Rattle.format.specs.Outcome.{Outcome.value, pick}
use Rattle.format.specs.Varint.{Scan, Scan.none, Scan.found, after, scan, taken, read_varint}
use Rattle.format.specs.Word.{bytes_for}
use Rattle.format.specs.Stats.{read_head}
use Rattle.format.specs.Bodies.{block_count}
use Rattle.format.specs.Opening.{Loaded, Table, opened, read_fields, read_width, read_blocks}
use Rattle.format.specs.Parts.{head_names, names_before, block_names, names_footer, names, shape_of, spelled_in, behind_end, extent, spelled, part_here, part_end, parts_from, parts_of, part_in, part_at}
use Rattle.format.specs.Blame.{Consecutive, holding, AllParted}
use Rattle.format.proofs.Lists.{below_or}
use Rattle.format.proofs.Outcomes.{not_value, value_same, by_step, by_demand}
use Rattle.format.proofs.Varints.{Agree, varint_read, not_found}
use Rattle.format.proofs.LineFields.{width_read, fields_read}
use Rattle.format.proofs.Openings.{OpensBitpacked, OpensLinear, OpensBlockwise, bitpacked_of, linear_of, blockwise_of, footer_start, by_opening}

-- ---- where parts of some names end

unfoldable pub end_from : (s : List ℕ) → Column → (at : ℕ) → List PartName → ℕ
end_from s col at [] = at
end_from s col at (n ∷ ns) = end_from s col (part_end (part_here s col n at)) ns

module _ (s : List ℕ) (col : Column) where
  -- parts follow one another by their making
  pub consecutive : (at : ℕ) (ns : List PartName) → Consecutive at (parts_from s col at ns) (end_from s col at ns)
  unfolding parts_from end_from
  consecutive at [] = refl
  consecutive at (n ∷ ns) = (refl, consecutive (part_end (part_here s col n at)) ns)

  pub end_append : (at : ℕ) (ns ms : List PartName) → end_from s col at (ns ++ ms) ≡ end_from s col (end_from s col at ns) ms
  unfolding end_from
  end_append at [] ms = refl
  end_append at (n ∷ ns) ms = end_append (part_end (part_here s col n at)) ns ms

  -- they end no earlier than they begin
  pub end_late : (at : ℕ) (ns : List PartName) → at ≤ end_from s col at ns
  unfolding end_from
  end_late at [] = omega arith
  end_late at (n ∷ ns) = omega (arith, end_late (part_end (part_here s col n at)) ns)

  -- one part, and those behind it
  end_step : (at next end : ℕ) (n : PartName) (ns : List PartName) → part_end (part_here s col n at) ≡ next → end_from s col next ns ≡ end → end_from s col at (n ∷ ns) ≡ end
  unfolding end_from
  end_step at next end n ns here rest = ap (λ (k : ℕ). end_from s col k ns) here ∙ rest

  end_none : (at : ℕ) → end_from s col at [] ≡ at
  unfolding end_from
  end_none at = refl

  -- a part whose bytes are there ends behind them
  part_to : (n : PartName) (at next : ℕ) → extent s col (shape_of n) at ≡ next - at → at ≤ next → next ≤ length s → part_end (part_here s col n at) ≡ next
  part_to n at next long late fit = omega arith

  -- so does a varint that was read
  varint_to : (n : PartName) (at : ℕ) (f : Field) → extent s col (shape_of n) at ≡ spelled_in (read_varint s at) → read_varint s at ≡ value f → part_end (part_here s col n at) ≡ f.next
  varint_to n at f long e =
      let r = varint_read s at f e in
      part_to n at f.next (long ∙ ap spelled_in e ∙ omega (arith, r.used)) (omega (arith, r.some)) r.within

  -- ---- finding the part of an offset

  -- parts that end before it are passed over
  pub part_skip : (at : ℕ) (ns ms : List PartName) (i : ℕ) → end_from s col at ns ≤ i → part_in (parts_from s col at (ns ++ ms)) i ≡ part_in (parts_from s col (end_from s col at ns) ms) i
  unfolding parts_from part_in end_from
  part_skip at [] ms i h = refl
  part_skip at (n ∷ ns) ms i h =
      let p = part_here s col n at in
      rw (le-ltb i (part_end p) (omega (arith, end_late (part_end p) ns))) (part_skip (part_end p) ns ms i h)

  -- the first part is taken where it ends behind it
  part_here_lem : (at : ℕ) (n : PartName) (ns : List PartName) (i : ℕ) → i < part_end (part_here s col n at) → part_in (parts_from s col at (n ∷ ns)) i ≡ Some (part_here s col n at)
  unfolding parts_from part_in
  part_here_lem at n ns i h = rw (lt-ltb i (part_end (part_here s col n at)) h)

  -- no part that begins behind a byte holds it
  none_later : (at : ℕ) (ns : List PartName) (i : ℕ) → i < at → holding (parts_from s col at ns) i ≡ []
  unfolding parts_from holding
  none_later at [] i h = refl
  none_later at (n ∷ ns) i h = rw (lt-leb at i h) (none_later (part_end (part_here s col n at)) ns i (omega arith))

  -- a byte before the end is held by just one part, the one that is found
  pub part_found : (at : ℕ) (ns : List PartName) (i : ℕ) → at ≤ i → i < end_from s col at ns
      → (p : Part) × (part_in (parts_from s col at ns) i ≡ Some p) × (holding (parts_from s col at ns) i ≡ p ∷ [])
  unfolding parts_from part_in holding end_from
  part_found at [] i low high = absurd (omega arith)
  part_found at (n ∷ ns) i low high =
      let p = part_here s col n at in
      ⊎_elim
      (λ (inside : i < part_end p).
      (p, rw (lt-ltb i (part_end p) inside), rw (le-leb at i low, lt-ltb i (part_end p) inside, none_later (part_end p) ns i inside)))
      (λ (behind : part_end p ≤ i).
      rw (le-ltb i (part_end p) behind, le-leb at i low) (part_found (part_end p) ns i behind high))
      (below_or i (part_end p))

-- ---- varints in the first bytes

-- a varint stands at the front of some bytes whatever follows
scan_more : (k : ℕ) (u w : List ℕ) (v n : ℕ) → scan k u ≡ found v n → scan k (u ++ w) ≡ found v n
unfolding scan
scan_more zero u w v n e = absurd (not_found e)
scan_more (suc k) [] w v n e = absurd (not_found e)
scan_more (suc k) (b ∷ u) w v n e = go (leb 128 b) (scan k u) refl e (λ (x m : ℕ) (is : scan k u ≡ found x m). scan_more k u w x m is)
  where
    go : (t : Bool) (r : Scan) → scan k u ≡ r → pick t (found (b - 128) 1) (after b r) ≡ found v n
        → ((x m : ℕ) → scan k u ≡ found x m → scan k (u ++ w) ≡ found x m) → pick t (found (b - 128) 1) (after b (scan k (u ++ w))) ≡ found v n
    go true r is e ih = e
    go false none is e ih = absurd (not_found e)
    go false (found x m) is e ih = rw (ih x m is) e

-- so one that was read in the first bytes of some is read in all of them
pub varint_whole : (s : List ℕ) (n at : ℕ) (f : Field) → read_varint (take n s) at ≡ value f → read_varint s at ≡ value f
unfolding read_varint
varint_whole s n at f e =
    let r = varint_read (take n s) at f e in
    let whole : drop at s ≡ drop at (take n s) ++ drop n s =
    ap (drop at) (sym (take-append-drop n s)) ∙ drop-append-le at (take n s) (drop n s) (omega (arith, r.some, r.within)) in
    go (scan 10 (drop at (take n s))) refl e whole
  where
    go : (q : Scan) → scan 10 (drop at (take n s)) ≡ q → taken at q ≡ value f → drop at s ≡ drop at (take n s) ++ drop n s → taken at (scan 10 (drop at s)) ≡ value f
    go none is e whole = absurd (not_value e)
    go (found v m) is e whole = rw (whole, scan_more 10 (drop at (take n s)) (drop n s) v m is) e

-- ---- where the parts of a column that opens end

-- the code byte and a head that was read
head_end : (s : List ℕ) (col : Column) (h : Head) → read_head s ≡ value h → end_from s col 0 head_names ≡ h.next
unfolding read_head extent
head_end s col h e =
    by_step (read_varint s 1) _ e λ m at_m e.
    by_step (read_varint s m.next) _ e λ g at_g e.
    by_demand (ltb 0 g.value) 7 [] _ e λ step e.
    by_step (read_varint s g.next) _ e λ c at_c e.
    by_demand (ltb (m.value + c.value * g.value) (2 ^ 64)) 8 [] _ e λ bounds e.
    by_step (read_varint s c.next) _ e λ r at_r e.
    by_demand (ltb r.value (2 ^ 32)) 8 [] _ e λ few e.
    let next : r.next ≡ h.next = ap (λ (k : Head). k.next) (value_same e) in
    let some = varint_read s 1 m at_m in
    end_step s col 0 1 h.next Code (Minimum ∷ Gcd ∷ Count ∷ Rows ∷ []) (part_to s col Code 0 1 refl (omega arith) (omega (arith, some.some, some.within)))
    (end_step s col 1 m.next h.next Minimum (Gcd ∷ Count ∷ Rows ∷ []) (varint_to s col Minimum 1 m refl at_m)
    (end_step s col m.next g.next h.next Gcd (Count ∷ Rows ∷ []) (varint_to s col Gcd m.next g refl at_g)
    (end_step s col g.next c.next h.next Count (Rows ∷ []) (varint_to s col Count g.next c refl at_c)
    (end_step s col c.next r.next h.next Rows [] (varint_to s col Rows c.next r refl at_r)
    (end_none s col r.next ∙ next)))))

-- a line and its width that were read, under three names
module _ (s : List ℕ) (col : Column) (a b w : PartName) (long_a : (at : ℕ) → extent s col (shape_of a) at ≡ spelled_in (read_varint s at))
    (long_b : (at : ℕ) → extent s col (shape_of b) at ≡ spelled_in (read_varint s at)) (long_w : (at : ℕ) → extent s col (shape_of w) at ≡ 1) where
  fields_end_lem : (n at : ℕ) (f : Fields) → n ≤ length s → read_fields (take n s) at ≡ value f → (end : ℕ) (ns : List PartName) → end_from s col f.next ns ≡ end
      → end_from s col at (a ∷ b ∷ w ∷ ns) ≡ end
  unfolding read_fields
  fields_end_lem n at f fit e end ns rest =
      by_step (read_varint (take n s) at) _ e λ m at_m e.
      by_step (read_varint (take n s) m.next) _ e λ c at_c e.
      by_step (read_width (take n s) c.next) _ e λ x at_x e.
      let next : c.next + 1 ≡ f.next = ap (λ (g : Fields). g.next) (value_same e) in
      let inside : c.next < length s = omega (arith, (width_read (take n s) c.next x at_x).within, length-take n s) in
      end_step s col at m.next end a (b ∷ w ∷ ns) (varint_to s col a at m (long_a at) (varint_whole s n at m at_m))
      (end_step s col m.next c.next end b (w ∷ ns) (varint_to s col b m.next c (long_b m.next) (varint_whole s n m.next c at_c))
      (end_step s col c.next f.next end w ns (part_to s col w c.next f.next (long_w c.next ∙ omega arith) (omega arith) (omega arith)) rest))

-- the fields of blocks that were read before the last four bytes, what is left over, and the footer's length
blocks_end : (k : ℕ) (s : List ℕ) (col : Column) (b at start rows : ℕ) (t : Table) → 4 ≤ length s → at ≤ length s - 4
    → read_blocks k (take (length s - 4) s) at start rows ≡ value t → end_from s col at (block_names b k ++ (Spare ∷ FooterLength ∷ [])) ≡ length s
unfolding read_blocks block_names extent
blocks_end zero s col b at start rows t four late e =
    end_step s col at (length s - 4) (length s) Spare (FooterLength ∷ []) (part_to s col Spare at (length s - 4) refl late (omega arith))
    (end_step s col (length s - 4) (length s) (length s) FooterLength [] (part_to s col FooterLength (length s - 4) (length s) (omega arith) (omega arith) (omega arith))
    (end_none s col (length s)))
blocks_end (suc k) s col b at start rows t four late e =
    by_step (read_fields (take (length s - 4) s) at) _ e λ f at_f e.
    by_step (read_blocks k (take (length s - 4) s) f.next (start + bytes_for (f.bits * min rows 512)) (rows - 512)) _ e λ u at_u e.
    fields_end_lem s col (BlockSlope b) (BlockIntercept b) (BlockWidth b) (λ (i : ℕ). refl) (λ (i : ℕ). refl) (λ (i : ℕ). refl)
    (length s - 4) at f (omega arith) at_f (length s) (block_names (suc b) k ++ (Spare ∷ FooterLength ∷ []))
    (blocks_end k s col (suc b) f.next (start + bytes_for (f.bits * min rows 512)) (rows - 512) u four
    (omega (arith, (fields_read (take (length s - 4) s) at f at_f).within, length-take (length s - 4) s)) at_u)

-- blocks that were read there are read of other bytes too, where those of their fields agree
pub blocks_alike : (k : ℕ) (s t : List ℕ) (col : Column) (b at start rows : ℕ) (u : Table) → length s ≡ length t
    → read_blocks k (take (length s - 4) s) at start rows ≡ value u → Agree s t at (end_from s col at (block_names b k))
    → read_blocks k (take (length s - 4) t) at start rows ≡ value u
unfolding read_blocks block_names extent
blocks_alike zero s t col b at start rows u len e same = e
blocks_alike (suc k) s t col b at start rows u len e same =
    let n = length s - 4 in
    by_step (read_fields (take n s) at) _ e λ f at_f e.
    by_step (read_blocks k (take n s) f.next (start + bytes_for (f.bits * min rows 512)) (rows - 512)) _ e λ v at_v e.
    let r = fields_read (take n s) at f at_f in
    let end : end_from s col at (BlockSlope b ∷ BlockIntercept b ∷ BlockWidth b ∷ block_names (suc b) k) ≡ end_from s col f.next (block_names (suc b) k) =
    fields_end_lem s col (BlockSlope b) (BlockIntercept b) (BlockWidth b) (λ (i : ℕ). refl) (λ (i : ℕ). refl) (λ (i : ℕ). refl) n at f (omega arith) at_f _ (block_names (suc b) k) refl in
    let later : f.next ≤ end_from s col f.next (block_names (suc b) k) = end_late s col f.next (block_names (suc b) k) in
    let long : length (take n s) ≡ length (take n t) = length-take n s ∙ ap (λ (m : ℕ). min n m) len ∙ sym (length-take n t) in
    let here : Agree (take n s) (take n t) at f.next =
    λ (i : ℕ) (low : at ≤ i) (high : i < f.next).
    let short : i < n = omega (arith, r.within, length-take n s) in
    get_or-take n s i 0 short ∙ same i low (omega (arith, end, later)) ∙ sym (get_or-take n t i 0 short) in
    let f_there : read_fields (take n t) at ≡ value f = r.elsewhere (take n t) long here in
    let v_there : read_blocks k (take n t) f.next (start + bytes_for (f.bits * min rows 512)) (rows - 512) ≡ value v =
    blocks_alike k s t col (suc b) f.next (start + bytes_for (f.bits * min rows 512)) (rows - 512) v len at_v
    (λ (i : ℕ) (low : f.next ≤ i) (high : i < end_from s col f.next (block_names (suc b) k)). same i (omega (arith, r.some)) (omega (arith, end))) in
    rw (f_there, v_there) e

-- where the area begins and ends, where the bytes behind it end, and that the footer ends with the last byte
pub record Marks (s : List ℕ) (col : Column) : Type 0 where
  pub before : end_from s col 0 (names_before col.codec) ≡ col.start
  pub area : col.start + col.size ≤ behind_end col.codec s
  pub behind : behind_end col.codec s ≤ length s
  pub footer : end_from s col (behind_end col.codec s) (names_footer col.codec col.rows) ≡ length s

pub opened_marks : (s : List ℕ) (room : ℕ) (o : Loaded) → opened s room ≡ value o → Marks s o.column
unfolding extent
opened_marks s room = by_opening (λ (o : Loaded). Marks s o.column) s room of_bitpacked of_linear of_blockwise
  where
    of_bitpacked : (h : Head) → OpensBitpacked s h → Marks s (bitpacked_of h).column
    of_bitpacked h f = record {
      before = head_end s (bitpacked_of h).column h f.begun.head;
      area = f.area;
      behind = omega arith;
      footer = end_none s (bitpacked_of h).column (length s);
    }

    of_linear : (h : Head) (g : Fields) → OpensLinear s h g → Marks s (linear_of h g).column
    of_linear h g f =
        let col = (linear_of h g).column in
        let all : take (length s) s ≡ s = take-length s in
        let line : end_from s col h.next (Slope ∷ Intercept ∷ Width ∷ []) ≡ g.next =
        fields_end_lem s col Slope Intercept Width (λ (i : ℕ). refl) (λ (i : ℕ). refl) (λ (i : ℕ). refl) (length s) h.next g (omega arith)
        (ap (λ (u : List ℕ). read_fields u h.next) all ∙ f.fields) g.next [] (end_none s col g.next) in
        record {
          before = end_append s col 0 head_names (Slope ∷ Intercept ∷ Width ∷ []) ∙ ap (λ (k : ℕ). end_from s col k (Slope ∷ Intercept ∷ Width ∷ [])) (head_end s col h f.begun.head) ∙ line;
          area = f.area;
          behind = omega arith;
          footer = end_none s col (length s);
        }

    of_blockwise : (h : Head) (t : Table) → OpensBlockwise s h room t → Marks s (blockwise_of h t).column
    of_blockwise h t f =
        let col = (blockwise_of h t).column in
        record {
          before = head_end s col h f.begun.head;
          area = f.area;
          behind = omega arith;
          footer = blocks_end (block_count h.rows) s col 0 (footer_start s) 0 h.rows t (omega (arith, f.four)) (omega arith) f.blocks;
        }

-- ---- all of it

module _ (s : List ℕ) (col : Column) (m : Marks s col) where
  area_to : part_end (part_here s col Area col.start) ≡ col.start + col.size
  unfolding extent
  area_to = part_to s col Area col.start (col.start + col.size) (omega arith) (omega arith) (omega (arith, m.area, m.behind))

  behind_to : part_end (part_here s col Behind (col.start + col.size)) ≡ behind_end col.codec s
  unfolding extent
  behind_to = part_to s col Behind (col.start + col.size) (behind_end col.codec s) refl m.area m.behind

  parts_end : end_from s col 0 (names col.codec col.rows) ≡ length s
  parts_end =
      let rest : end_from s col col.start (Area ∷ Behind ∷ names_footer col.codec col.rows) ≡ length s =
      end_step s col col.start (col.start + col.size) (length s) Area (Behind ∷ names_footer col.codec col.rows) area_to
      (end_step s col (col.start + col.size) (behind_end col.codec s) (length s) Behind (names_footer col.codec col.rows) behind_to m.footer) in
      end_append s col 0 (names_before col.codec) (Area ∷ Behind ∷ names_footer col.codec col.rows)
      ∙ ap (λ (k : ℕ). end_from s col k (Area ∷ Behind ∷ names_footer col.codec col.rows)) m.before ∙ rest

  -- a byte of the area, or behind it: the parts before the area are passed over
  from_area : (i : ℕ) → col.start ≤ i → part_at s col i ≡ part_in (parts_from s col col.start (Area ∷ Behind ∷ names_footer col.codec col.rows)) i
  from_area i low =
      part_skip s col 0 (names_before col.codec) (Area ∷ Behind ∷ names_footer col.codec col.rows) i (omega (arith, m.before))
      ∙ ap (λ (k : ℕ). part_in (parts_from s col k (Area ∷ Behind ∷ names_footer col.codec col.rows)) i) m.before

  pub area_part : (i : ℕ) → col.start ≤ i → i < col.start + col.size → part_at s col i ≡ Some (record { name = Area; first = col.start; bytes = col.size; value = 0 })
  unfolding spelled
  area_part i low high =
      let long : (part_here s col Area col.start).bytes ≡ col.size = omega (arith, area_to) in
      from_area i low ∙ part_here_lem s col col.start Area (Behind ∷ names_footer col.codec col.rows) i (omega (arith, area_to))
      ∙ ap (λ (n : ℕ). Some (record { name = Area; first = col.start; bytes = n; value = 0 })) long

  pub behind_part : (i n : ℕ) → col.start + col.size + n ≡ behind_end col.codec s → col.start + col.size ≤ i → i < behind_end col.codec s
      → part_at s col i ≡ Some (record { name = Behind; first = col.start + col.size; bytes = n; value = 0 })
  unfolding end_from spelled
  behind_part i n much low high =
      let long : (part_here s col Behind (col.start + col.size)).bytes ≡ n = omega (arith, behind_to) in
      from_area i (omega arith)
      ∙ part_skip s col col.start (Area ∷ []) (Behind ∷ names_footer col.codec col.rows) i (omega (arith, area_to))
      ∙ ap (λ (k : ℕ). part_in (parts_from s col k (Behind ∷ names_footer col.codec col.rows)) i) area_to
      ∙ part_here_lem s col (col.start + col.size) Behind (names_footer col.codec col.rows) i (omega (arith, behind_to))
      ∙ ap (λ (k : ℕ). Some (record { name = Behind; first = col.start + col.size; bytes = k; value = 0 })) long

pub all_parted : AllParted
all_parted s room o e =
    let col = o.column in
    let m = opened_marks s room o e in
    let ns = names col.codec col.rows in
    record {
      cover = subst (λ (end : ℕ). Consecutive 0 (parts_of s col) end) (parts_end s col m) (consecutive s col 0 ns);
      each = λ (i : ℕ) (h : i < length s). part_found s col 0 ns i (omega arith) (omega (arith, parts_end s col m));
      area = area_part s col m;
      behind = behind_part s col m;
    }
