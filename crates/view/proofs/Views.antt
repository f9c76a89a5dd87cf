-- Opening for a view by opening with no room for a block, and what its answers have to do with those of the other calls.
--     viewed_columns                       the code's way is the rule's
--     view_opens                           unless it is 20, an answer is opening's, with whatever table
--     view_rows                            every row answers as it does with whatever table
-- Assumes nothing.
use Rattle.std.specs.Prelude.{Option}
use Prim.Native.Nat.{ℕ, zero, suc, ◌+◌, ◌-◌, ◌*◌, ◌^◌}
use mathlib.Core.Path.{◌≡◌, refl, sym, ap, ◌∙◌, subst}
use mathlib.Core.Bool.{Bool, true, false}
use mathlib.Core.Logic.{◌⊎◌, inl, inr, ⊎_elim}
use mathlib.Core.List.{List, [], ◌∷◌}
use native.Mathlib.Omega.{arith}
use lib.Dec.{leb, ltb, eqb}
use lib.ListN.{length, take, drop, get_or}
use borrow.Author.Tests.{leb-true, le-leb}
use Rattle.format.specs.declared.Block.{Block}
use Rattle.format.specs.declared.Column.{Column}
use Rattle.format.specs.declared.Field.{Field}
use Rattle.format.specs.declared.Fields.{Fields}
use Rattle.format.specs.declared.Head.{Head}
use Rattle.format.specs.Outcome.{Outcome, Outcome.value, Outcome.refusal, ◌>>=◌, ◌>>◌, demand}
use Rattle.format.specs.Varint.{Scan, Scan.none, Scan.found, scan, taken, read_varint}
use Rattle.format.specs.Packing.{legal, bytes_num}
use Rattle.format.specs.Stats.{read_head}
use Rattle.format.specs.Bodies.{block_count}
use Rattle.format.specs.Opening.{Loaded, Table, read_width, read_fields, read_blocks, open_bitpacked, open_linear, open_blockwise, open_body, opened, column_in}
use Rattle.format.specs.Sheets.{under_sheet, opened_under}
use Rattle.format.specs.Reading.{row_in, fits, row_fits, place_in, packed_of, value_in, row_at}
use Rattle.format.specs.Viewing.{view_blockwise, view_body, viewed, viewed_under}
use Rattle.format.proofs.Outcomes.{not_value, value_same, by_step, by_demand}
use Rattle.format.proofs.Openings.{bitpacked_of, linear_of, blockwise_of}
use Rattle.open_sheet.specs.Faults.{AllWithin}
use Rattle.open_sheet.proofs.SheetNumbers.{accepted}
use Rattle.open_column.proofs.Opens.{opened-within}
use Rattle.view.specs.Held.{for_view}

-- ---- refusals that are not 11

-- an outcome that does not refuse by 11
abbrev Other : {A : Type 0} → Outcome A → Type 0
Other (value a) = Unit {0}
Other (refusal number also) = eqb number 11 ≡ false

other_step : {A B : Type 0} (o : Outcome A) (k : A → Outcome B) → Other o → ((a : A) → Other (k a)) → Other (o >>= k)
other_step (value a) k p q = q a
other_step (refusal number also) k p q = p

other_demand : {B : Type 0} (t : Bool) (n : ℕ) (also : List ℕ) (o : Outcome B) → eqb n 11 ≡ false → Other o → Other (demand t n also >> o)
other_demand true n also o p q = q
other_demand false n also o p q = p

other_varint : (s : List ℕ) (at : ℕ) → Other (read_varint s at)
unfolding read_varint
other_varint s at = go (scan 10 (drop at s))
  where
    go : (x : Scan) → Other (taken at x)
    go none = refl
    go (found v n) = other_demand (ltb v (2 ^ 64)) 6 (at ∷ []) _ refl tt

other_width : (s : List ℕ) (at : ℕ) → Other (read_width s at)
unfolding read_width
other_width s at = other_demand (ltb at (length s)) 6 (at ∷ []) _ refl (other_demand (legal (get_or s at 0)) 9 (at ∷ []) _ refl tt)

other_fields : (s : List ℕ) (at : ℕ) → Other (read_fields s at)
unfolding read_fields
other_fields s at =
    other_step (read_varint s at) _ (other_varint s at) (λ (m : Field).
    other_step (read_varint s m.next) _ (other_varint s m.next) (λ (c : Field).
    other_step (read_width s c.next) _ (other_width s c.next) (λ (w : ℕ). tt)))

other_head : (s : List ℕ) → Other (read_head s)
unfolding read_head
other_head s =
    other_step (read_varint s 1) _ (other_varint s 1) (λ (m : Field).
    other_step (read_varint s m.next) _ (other_varint s m.next) (λ (g : Field).
    other_demand (ltb 0 g.value) 7 [] _ refl
    (other_step (read_varint s g.next) _ (other_varint s g.next) (λ (c : Field).
    other_demand (ltb (m.value + c.value * g.value) (2 ^ 64)) 8 [] _ refl
    (other_step (read_varint s c.next) _ (other_varint s c.next) (λ (r : Field).
    other_demand (ltb r.value (2 ^ 32)) 8 [] _ refl tt))))))

-- ---- by the codec

bitpacked_for : (s : List ℕ) (h : Head) → column_in (open_bitpacked s h) ≡ for_view (column_in (open_bitpacked s h))
unfolding open_bitpacked
bitpacked_for s h = go (leb _ (length s))
  where
    go : (t : Bool) → column_in (demand t 10 [] >> value (bitpacked_of h)) ≡ for_view (column_in (demand t 10 [] >> value (bitpacked_of h)))
    go true = refl
    go false = refl

linear_for : (s : List ℕ) (h : Head) → column_in (open_linear s h) ≡ for_view (column_in (open_linear s h))
unfolding open_linear
linear_for s h = go (read_fields s h.next) (other_fields s h.next)
  where
    met : (f : Fields) (t : Bool) → column_in (demand t 10 [] >> value (linear_of h f)) ≡ for_view (column_in (demand t 10 [] >> value (linear_of h f)))
    met f true = refl
    met f false = refl

    go : (o : Outcome Fields) → Other o
        → column_in (o >>= (λ (f : Fields). demand (leb (f.next + (linear_of h f).column.size) (length s)) 10 [] >> value (linear_of h f)))
        ≡ for_view (column_in (o >>= (λ (f : Fields). demand (leb (f.next + (linear_of h f).column.size) (length s)) 10 [] >> value (linear_of h f))))
    go (value f) other = met f (leb (f.next + (linear_of h f).column.size) (length s))
    go (refusal number also) other = rw other

-- a Blockwise column has no room for a block, or none
blockwise_for : (s : List ℕ) (h : Head) → column_in (view_blockwise s h) ≡ for_view (column_in (open_blockwise s h 0))
unfolding view_blockwise open_blockwise read_blocks
blockwise_for s h = go (block_count h.rows) (leb (h.next + 4) (length s)) (leb (h.next + bytes_num (drop (length s - 4) s)) (length s - 4)) (leb (block_count h.rows) 0) refl refl
  where
    go : (k : ℕ) (t u v : Bool) → leb (h.next + bytes_num (drop (length s - 4) s)) (length s - 4) ≡ u → leb k 0 ≡ v
        → column_in (demand t 10 [] >> (demand u 10 [] >> refusal 20 []))
        ≡ for_view (column_in (demand t 10 [] >> (demand u 10 [] >> (demand v 11 (k ∷ [])
        >> (read_blocks k (take (length s - 4) s) (length s - 4 - bytes_num (drop (length s - 4) s)) 0 h.rows
        >>= (λ (b : Table). demand (leb (h.next + b.area) (length s - 4 - bytes_num (drop (length s - 4) s))) 10 [] >> value (blockwise_of h b)))))))
    go k false u v eu ev = refl
    go k true false v eu ev = refl
    go k true true false eu ev = refl
    go (suc k) true true true eu ev = absurd (omega (arith, leb-true (suc k) 0 ev))
    go zero true true true eu ev =
        rw (le-leb (h.next + 0) (length s - 4 - bytes_num (drop (length s - 4) s)) (omega (arith, leb-true (h.next + bytes_num (drop (length s - 4) s)) (length s - 4) eu)))

-- ---- the code's way

pub viewed_columns : (s : List ℕ) → column_in (viewed s) ≡ for_view (column_in (opened s 0))
unfolding viewed view_body opened open_body
viewed_columns [] = refl
viewed_columns (c ∷ s) = go (leb c 2) (read_head (c ∷ s)) (other_head (c ∷ s))
  where
    body : (k : ℕ) (h : Head) → column_in (view_body k (c ∷ s) h) ≡ for_view (column_in (open_body k (c ∷ s) h 0))
    body zero h = bitpacked_for (c ∷ s) h
    body (suc zero) h = linear_for (c ∷ s) h
    body (suc (suc k)) h = blockwise_for (c ∷ s) h

    go : (t : Bool) (o : Outcome Head) → Other o
        → column_in (demand t 5 [] >> (o >>= (λ (h : Head). view_body c (c ∷ s) h))) ≡ for_view (column_in (demand t 5 [] >> (o >>= (λ (h : Head). open_body c (c ∷ s) h 0))))
    go false o other = refl
    go true (refusal number also) other = rw other
    go true (value h) other = body c h

-- ---- beside the other calls

plain_opens : (s : List ℕ) → (viewed s ≡ refusal 20 []) ⊎ ((room : ℕ) → viewed s ≡ opened s room)
unfolding viewed view_body view_blockwise opened open_body open_blockwise
plain_opens [] = inr (λ room. refl)
plain_opens (c ∷ s) = go (leb c 2) (read_head (c ∷ s))
  where
    footer : (t u : Bool) (next : ℕ → Outcome Loaded)
        → (◌≡◌ {A = Outcome Loaded} (demand t 10 [] >> (demand u 10 [] >> refusal 20 [])) (refusal 20 [])) ⊎ ((room : ℕ) → (demand t 10 [] >> (demand u 10 [] >> refusal 20 [])) ≡ (demand t 10 [] >> (demand u 10 [] >> next room)))
    footer false u next = inr (λ room. refl)
    footer true false next = inr (λ room. refl)
    footer true true next = inl refl

    body : (k : ℕ) (h : Head) → (view_body k (c ∷ s) h ≡ refusal 20 []) ⊎ ((room : ℕ) → view_body k (c ∷ s) h ≡ open_body k (c ∷ s) h room)
    body zero h = inr (λ room. refl)
    body (suc zero) h = inr (λ room. refl)
    body (suc (suc k)) h =
        let end = length (c ∷ s) - 4 in
        let long = bytes_num (drop end (c ∷ s)) in
        footer (leb (h.next + 4) (length (c ∷ s))) (leb (h.next + long) end) (λ (room : ℕ). demand (leb (block_count h.rows) room) 11 (block_count h.rows ∷ [])
        >> (read_blocks (block_count h.rows) (take end (c ∷ s)) (end - long) 0 h.rows >>= (λ (b : Table). demand (leb (h.next + b.area) (end - long)) 10 [] >> value (blockwise_of h b))))

    go : (t : Bool) (o : Outcome Head)
        → ((demand t 5 [] >> (o >>= (λ (h : Head). view_body c (c ∷ s) h))) ≡ refusal 20 [])
        ⊎ ((room : ℕ) → (demand t 5 [] >> (o >>= (λ (h : Head). view_body c (c ∷ s) h))) ≡ (demand t 5 [] >> (o >>= (λ (h : Head). open_body c (c ∷ s) h room))))
    go false o = inr (λ room. refl)
    go true (refusal number also) = inr (λ room. refl)
    go true (value h) = body c h

-- a sheet refuses whatever was found, or lets 20 through
by_sheet : (sheet : ℕ) (s : List ℕ) → (under_sheet sheet s (refusal 20 []) ≡ refusal 20 []) ⊎ ((v : Outcome Loaded) → under_sheet sheet s v ≡ refusal 18 [])
unfolding under_sheet
by_sheet zero s = inr (λ v. refl)
by_sheet (suc zero) s = inl refl
by_sheet (suc (suc zero)) s = inl refl
by_sheet (suc (suc (suc sheet))) s = inr (λ v. refl)

-- unless it is 20, what opening a view answers is what opening under that sheet answers, with whatever room for blocks
pub view_opens : (sheet : ℕ) (s : List ℕ) → (viewed_under sheet s ≡ refusal 20 []) ⊎ ((room : ℕ) → viewed_under sheet s ≡ opened_under sheet s room)
view_opens sheet s = ⊎_elim (twenty sheet) (λ (same : (room : ℕ) → viewed s ≡ opened s room). inr (λ (room : ℕ). ap (under_sheet sheet s) (same room))) (plain_opens s)
  where
    twenty : (sheet : ℕ) → viewed s ≡ refusal 20 [] → (viewed_under sheet s ≡ refusal 20 []) ⊎ ((room : ℕ) → viewed_under sheet s ≡ opened_under sheet s room)
    twenty sheet e = ⊎_elim (λ is. inl (ap (under_sheet sheet s) e ∙ is)) (λ is. inr (λ (room : ℕ). is (viewed s) ∙ sym (is (opened s room)))) (by_sheet sheet s)

-- a column that opens for a view is Bitpacked or Linear
by_view : (C : Loaded → Type 0) (s : List ℕ) → ((h : Head) → C (bitpacked_of h)) → ((h : Head) (f : Fields) → C (linear_of h f)) → (o : Loaded) → viewed s ≡ value o → C o
unfolding viewed view_body view_blockwise open_bitpacked open_linear
by_view C [] of_bitpacked of_linear o e = absurd (not_value e)
by_view C (c ∷ s) of_bitpacked of_linear o e =
    by_demand (leb c 2) 5 [] _ e λ known e.
    by_step (read_head (c ∷ s)) _ e λ h is e.
    body c h e
  where
    body : (k : ℕ) (h : Head) → view_body k (c ∷ s) h ≡ value o → C o
    body zero h e =
        by_demand (leb (h.next + (bitpacked_of h).column.size) (length (c ∷ s))) 10 [] _ e λ area e.
        subst C (value_same e) (of_bitpacked h)
    body (suc zero) h e =
        by_step (read_fields (c ∷ s) h.next) _ e λ f is e.
        by_demand (leb (f.next + (linear_of h f).column.size) (length (c ∷ s))) 10 [] _ e λ area e.
        subst C (value_same e) (of_linear h f)
    body (suc (suc k)) h e =
        by_demand (leb (h.next + 4) (length (c ∷ s))) 10 [] _ e λ four e.
        by_demand (leb (h.next + bytes_num (drop (length (c ∷ s) - 4) (c ∷ s))) (length (c ∷ s) - 4)) 10 [] _ e λ long e.
        absurd (not_value e)

-- its area lies behind its code byte and ends within the bytes
pub viewed-within : (s : List ℕ) (a : Outcome (Column × Option ℕ)) → a ≡ column_in (viewed s) → AllWithin a s
viewed-within s a is = subst (λ (x : Outcome (Column × Option ℕ)). AllWithin x s) (sym is) (⊎_elim
    (λ (twenty : viewed s ≡ refusal 20 []). subst (λ (o : Outcome Loaded). AllWithin (column_in o) s) (sym twenty) tt)
    (λ (same : (room : ℕ) → viewed s ≡ opened s room). opened-within s 0 (column_in (viewed s)) (ap column_in (same 0)))
    (plain_opens s))

-- every row of it answers as it does with whatever table
pub view_rows : (sheet : ℕ) (s : List ℕ) (o : Loaded) → viewed_under sheet s ≡ value o → (table : List Block) (r : ℕ) → row_at o.column [] s r ≡ row_at o.column table s r
unfolding row_in fits row_fits place_in packed_of value_in
view_rows sheet s o e =
    by_view (λ (l : Loaded). (table : List Block) (r : ℕ) → row_at l.column [] s r ≡ row_at l.column table s r) s
    (λ (h : Head) (table : List Block) (r : ℕ). refl)
    (λ (h : Head) (f : Fields) (table : List Block) (r : ℕ). refl)
    o (accepted sheet s (viewed s) o e)
