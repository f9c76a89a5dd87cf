-- A function's locals, all at once: how a walk by hand enters a function, and how it leaves it. In the context the last local comes first, each as what it holds and what frees it.
--     enters       the locals are there and the parameters stored, and the body runs
--     leaves       what the locals hold is let go, and they are freed
--     keeps        of the locals the first n keep what they hold, the others are room; what stands before them goes behind, what stood behind is let go: as the invariant of a loop has them
-- Assumes `Logic`.
use mathlib.Core.Path.{◌≡◌, subst, sym}
use Prim.Native.Nat.{ℕ, zero, suc}
use mathlib.Core.List.{List, [], ◌∷◌, ◌++◌}
use seplogic.Ra.Ura.{Ura}
use base.Fraction.{full_share}
use lib.Dec.{T}
use mir.Syntax.{Ty, Local, local, value_local, Fn}
use mir.Val.{Val, WT, has_ty}
use base.Logic.{SProp, ent, sep, wand, emp, id⊢, via, fst∗, snd∗, emp∗, comm∗, mono∗, mono_l, mono_r, wand_i, all_i, guard_i, assoc∗}
use base.Fml.{fat, froom, fdies}
use prog.Wp.{Env, Calls, Loops, Wp, WpFn, alloc, params as params', pass, release, at_return}
use types.Logic.{Logic}
use types.Kit.{Goal, Item, ‵, raw, ◌⊛◌, assume, by, mean, ⋆, push, pop, ⊢++, prop, runs, frees, at_ret, aim, Seq, Step, step, ◌$◌, ◌∵◌, !, qed, move, split, join, frame, done}

-- what a local holds
pub data Holding : Type 0 where
  bare : Holding
  holds : Val → Holding

-- locals that hold n values
abbrev pub Vals : ℕ → Type 0
Vals zero = Unit {0}
Vals (suc n) = Val × Vals n

abbrev pub filled : (n : ℕ) → Vals n → List Holding
filled zero vs = []
filled (suc n) vs = holds vs.0 ∷ filled n vs.1

abbrev pub these : List Val → List Holding
these [] = []
these (v ∷ vs) = holds v ∷ these vs

-- what the first n hold
abbrev pub front : ℕ → List Holding → List Holding
front zero hs = []
front (suc n) [] = []
front (suc n) (h ∷ hs) = h ∷ front n hs

pub record Cell : Type 0 where
  pub type : Ty
  pub spot : ℕ
  pub holding : Holding

-- locals of these types
abbrev pub of_types : List Ty → List Local
of_types [] = []
of_types (τ ∷ τs) = local τ value_local ∷ of_types τs

-- where the locals lie
abbrev pub Spots : List Local → Type 0
Spots [] = Unit {0}
Spots (l ∷ ls) = ℕ × Spots ls

-- that the arguments are values of the parameters' types; the first local is the result
abbrev pub Taken : List Local → List Val → Type 0
Taken ls [] = Unit {0}
Taken [] (v ∷ vs) = ⊥
Taken (local τ h ∷ ls) (v ∷ vs) = (T (has_ty τ v) × WT v) × Taken ls vs

abbrev pub Fit : List Local → List Val → Type 0
Fit [] vs = ⊥
Fit (l ∷ ls) vs = Taken ls vs

-- the locals once the arguments are stored
abbrev pub params : (ls : List Local) → List Val → Spots ls → List Cell
params [] vs bs = []
params (local τ h ∷ ls) [] bs = record { type = τ; spot = bs.0; holding = bare } ∷ params ls [] bs.1
params (local τ h ∷ ls) (v ∷ vs) bs = record { type = τ; spot = bs.0; holding = holds v } ∷ params ls vs bs.1

abbrev pub begun : (ls : List Local) → List Val → Spots ls → List Cell
begun [] vs bs = []
begun (local τ h ∷ ls) vs bs = record { type = τ; spot = bs.0; holding = bare } ∷ params ls vs bs.1

module _ {M : Type 1} {𝓤 : Ura M} (𝓛 : Logic 𝓤) where
  open 𝓛 use {H}

  abbrev Cx : Type 2
  Cx = List (Item 𝓤)

  abbrev pub env_of : List Cell → Env 𝓤 H
  env_of [] = []
  env_of (c ∷ cs) = (c.type, c.spot) ∷ env_of cs

  abbrev pub item_of : Ty → ℕ → Holding → Item 𝓤
  item_of τ b bare = ‵ (froom τ b zero)
  item_of τ b (holds v) = ‵ (fat full_share τ b zero v)

  abbrev pub laid : List Cell → Cx → Cx
  laid [] Γ = Γ
  laid (c ∷ cs) Γ = laid cs (item_of c.type c.spot c.holding ∷ ‵ (fdies c.type c.spot) ∷ Γ)

  -- the same as one assertion, the first local in front
  unfoldable held : List Cell → SProp 𝓤
  held [] = emp 𝓤
  held (c ∷ cs) = sep 𝓤 (sep 𝓤 (mean 𝓛 (item_of c.type c.spot c.holding)) (H.dies c.type c.spot)) (held cs)

  abbrev behind : Cx → Cx
  behind [] = []
  behind (i ∷ []) = []
  behind (i ∷ d ∷ Γ) = Γ

  -- the locals of an environment, by what they hold
  abbrev pub cells_of : Env 𝓤 H → List Holding → List Cell
  cells_of [] hs = []
  cells_of (e ∷ E) [] = record { type = e.0; spot = e.1; holding = bare } ∷ cells_of E []
  cells_of (e ∷ E) (h ∷ hs) = record { type = e.0; spot = e.1; holding = h } ∷ cells_of E hs

  -- what stands behind the locals
  abbrev pub past : Env 𝓤 H → Cx → Cx
  past [] Γ = Γ
  past (e ∷ E) Γ = past E (behind Γ)

  -- the first n entries, and the others
  abbrev pub firsts : ℕ → Cx → Cx
  firsts zero Γ = []
  firsts (suc n) [] = []
  firsts (suc n) (i ∷ Γ) = i ∷ firsts n Γ

  abbrev pub others : ℕ → Cx → Cx
  others zero Γ = Γ
  others (suc n) [] = []
  others (suc n) (i ∷ Γ) = others n Γ

  -- ---- the laws, as entailments
  taken_out : (P : SProp 𝓤) (i d : Item 𝓤) (Γ : Cx) → ent 𝓤 (sep 𝓤 P (⋆ 𝓛 (i ∷ d ∷ Γ))) (sep 𝓤 (sep 𝓤 (sep 𝓤 (mean 𝓛 i) (mean 𝓛 d)) P) (⋆ 𝓛 Γ))
  taken_out P i d Γ =
      via 𝓤 (sep 𝓤 P (sep 𝓤 (mean 𝓛 i) (sep 𝓤 (mean 𝓛 d) (⋆ 𝓛 Γ)))) (mono_r 𝓤 P (mono_r 𝓤 (mean 𝓛 i) (pop 𝓛 d Γ)))
      (qed 𝓛 (raw P ∷ i ∷ d ∷ raw (⋆ 𝓛 Γ) ∷ []) ∵ move ! (1 ∷ 2 ∷ 0 ∷ []) $ join ! $ join ! $ done !)

  put_in : (P : SProp 𝓤) (i d : Item 𝓤) (Γ : Cx) → ent 𝓤 (sep 𝓤 (sep 𝓤 (sep 𝓤 (mean 𝓛 i) (mean 𝓛 d)) P) (⋆ 𝓛 Γ)) (sep 𝓤 P (⋆ 𝓛 (i ∷ d ∷ Γ)))
  put_in P i d Γ =
      via 𝓤 (sep 𝓤 P (sep 𝓤 (mean 𝓛 i) (sep 𝓤 (mean 𝓛 d) (⋆ 𝓛 Γ))))
      (qed 𝓛 (((i ⊛ d) ⊛ raw P) ∷ raw (⋆ 𝓛 Γ) ∷ []) ∵ split ! $ split ! $ move ! (2 ∷ []) $ done !)
      (mono_r 𝓤 P (mono_r 𝓤 (mean 𝓛 i) (push 𝓛 d Γ)))

  out : (cs : List Cell) (Γ : Cx) → ent 𝓤 (⋆ 𝓛 (laid cs Γ)) (sep 𝓤 (held cs) (⋆ 𝓛 Γ))
  unfolding held
  out [] Γ = emp∗ 𝓤 (⋆ 𝓛 Γ)
  out (c ∷ cs) Γ = via 𝓤 _ (out cs _) (taken_out (held cs) (item_of c.type c.spot c.holding) (‵ (fdies c.type c.spot)) Γ)

  into : (cs : List Cell) (Γ : Cx) → ent 𝓤 (sep 𝓤 (held cs) (⋆ 𝓛 Γ)) (⋆ 𝓛 (laid cs Γ))
  unfolding held
  into [] Γ = snd∗ 𝓤 (emp 𝓤) (⋆ 𝓛 Γ)
  into (c ∷ cs) Γ = via 𝓤 _ (put_in (held cs) (item_of c.type c.spot c.holding) (‵ (fdies c.type c.spot)) Γ) (into cs _)

  -- what a local holds is room
  is_room : (τ : Ty) (b : ℕ) (h : Holding) → ent 𝓤 (mean 𝓛 (item_of τ b h)) (H.room τ b zero)
  is_room τ b bare = id⊢ 𝓤 (H.room τ b zero)
  is_room τ b (holds v) = 𝓛.laws.at_room τ b zero v

  let_go : (E : Env 𝓤 H) (n : ℕ) (hs : List Holding) → ent 𝓤 (held (cells_of E hs)) (held (cells_of E (front n hs)))
  unfolding held
  let_go [] n hs = id⊢ 𝓤 (emp 𝓤)
  let_go (e ∷ E) zero [] = id⊢ 𝓤 (held (cells_of (e ∷ E) []))
  let_go (e ∷ E) zero (h ∷ hs) = mono∗ 𝓤 (mono_l 𝓤 (H.dies e.0 e.1) (is_room e.0 e.1 h)) (let_go E zero hs)
  let_go (e ∷ E) (suc n) [] = id⊢ 𝓤 (held (cells_of (e ∷ E) []))
  let_go (e ∷ E) (suc n) (h ∷ hs) = mono_r 𝓤 (sep 𝓤 (mean 𝓛 (item_of e.0 e.1 h)) (H.dies e.0 e.1)) (let_go E n hs)

  freed : (E : Env 𝓤 H) (hs : List Holding) (P : SProp 𝓤) → ent 𝓤 (sep 𝓤 (held (cells_of E hs)) P) (release 𝓤 H E P)
  unfolding held
  freed [] hs P = snd∗ 𝓤 (emp 𝓤) P
  freed (e ∷ E) [] P = via 𝓤 _ (assoc∗ 𝓤 (sep 𝓤 (H.room e.0 e.1 zero) (H.dies e.0 e.1)) (held (cells_of E [])) P) (mono_r 𝓤 (sep 𝓤 (H.room e.0 e.1 zero) (H.dies e.0 e.1)) (freed E [] P))
  freed (e ∷ E) (h ∷ hs) P =
      via 𝓤 _ (assoc∗ 𝓤 (sep 𝓤 (mean 𝓛 (item_of e.0 e.1 h)) (H.dies e.0 e.1)) (held (cells_of E hs)) P)
      (mono∗ 𝓤 (mono_l 𝓤 (H.dies e.0 e.1) (is_room e.0 e.1 h)) (freed E hs P))

  allocated : (ls : List Local) (P : SProp 𝓤) (Kt : Env 𝓤 H → SProp 𝓤) → ((bs : Spots ls) → ent 𝓤 (sep 𝓤 (held (params ls [] bs)) P) (Kt (env_of (params ls [] bs)))) → ent 𝓤 P (alloc 𝓤 H ls Kt)
  unfolding held
  allocated [] P Kt k = via 𝓤 _ (emp∗ 𝓤 P) (k tt)
  allocated (local τ h ∷ ls) P Kt k =
      all_i 𝓤 _ (λ b. wand_i 𝓤 P (sep 𝓤 (H.room τ b zero) (H.dies τ b)) _
      (allocated ls (sep 𝓤 P (sep 𝓤 (H.room τ b zero) (H.dies τ b))) (λ E. Kt ((τ, b) ∷ E)) (λ bs.
      via 𝓤 _ (qed 𝓛 (raw (held (params ls [] bs)) ∷ raw P ∷ raw (sep 𝓤 (H.room τ b zero) (H.dies τ b)) ∷ []) ∵ move ! (2 ∷ 0 ∷ []) $ join ! $ done !) (k (b, bs)))))

  passed : (ls : List Local) (vs : List Val) (bs : Spots ls) → Taken ls vs → (P Q : SProp 𝓤) → ent 𝓤 (sep 𝓤 (held (params ls vs bs)) P) Q → ent 𝓤 (sep 𝓤 (held (params ls [] bs)) P) (pass 𝓤 H (env_of (params ls [] bs)) vs Q)
  unfolding held
  passed ls [] bs fit P Q k = k
  passed [] (v ∷ vs) bs fit P Q k = absurd fit
  passed (local τ h ∷ ls) (v ∷ vs) bs fit P Q k =
      via 𝓤 (sep 𝓤 (H.room τ bs.0 zero) (wand 𝓤 (H.at full_share τ bs.0 zero v) (pass 𝓤 H (env_of (params ls [] bs.1)) vs Q)))
      (qed 𝓛 (((raw (H.room τ bs.0 zero) ⊛ raw (H.dies τ bs.0)) ⊛ raw (held (params ls [] bs.1))) ∷ raw P ∷ []) ∵ split ! $ split ! $ frame ! $ assume ! (raw (H.at full_share τ bs.0 zero v)) $ move ! (2 ∷ 3 ∷ 0 ∷ 1 ∷ []) $
      by ! (passed ls vs bs.1 fit.1 (sep 𝓤 P (sep 𝓤 (H.at full_share τ bs.0 zero v) (H.dies τ bs.0))) Q
      (via 𝓤 _ (qed 𝓛 (raw (held (params ls vs bs.1)) ∷ raw P ∷ raw (H.at full_share τ bs.0 zero v) ∷ raw (H.dies τ bs.0) ∷ []) ∵ move ! (2 ∷ 3 ∷ 0 ∷ []) $ join ! $ join ! $ done !) k)))
      (guard_i 𝓤 (T (has_ty τ v) × WT v) (sep 𝓤 (H.room τ bs.0 zero) (wand 𝓤 (H.at full_share τ bs.0 zero v) (pass 𝓤 H (env_of (params ls [] bs.1)) vs Q))) fit.0)

module _ {M : Type 1} {𝓤 : Ura M} {𝓛 : Logic 𝓤} {K : Type 0} where
  open 𝓛 use {H}

  began : (Γ : List (Item 𝓤)) (C : Calls 𝓤 H) (Λ : Loops 𝓤 H) (f : Fn) (vs : List Val) (Kf : Val → SProp 𝓤) (ls : List Local) → Fit ls vs
      → ((bs : Spots ls) → Seq K 𝓛 (laid 𝓛 (begun ls vs bs) Γ) (runs C Λ (env_of 𝓛 (params ls [] bs)) f.body (at_ret (env_of 𝓛 (params ls [] bs)) Kf)))
      → ent 𝓤 (⋆ 𝓛 Γ) (alloc 𝓤 H ls (λ E. params' 𝓤 H E vs (Wp 𝓤 H C Λ E f.body (at_return 𝓤 H E Kf))))
  unfolding held
  began Γ C Λ f vs Kf [] fit k = absurd fit
  began Γ C Λ f vs Kf (local τ h ∷ ls) fit k =
      allocated 𝓛 (local τ h ∷ ls) (⋆ 𝓛 Γ) (λ E. params' 𝓤 H E vs (Wp 𝓤 H C Λ E f.body (at_return 𝓤 H E Kf))) (λ bs. via 𝓤 _ (put_in 𝓛 (held 𝓛 (params ls [] bs.1)) (‵ (froom τ bs.0 zero)) (‵ (fdies τ bs.0)) Γ)
      (passed 𝓛 ls vs bs.1 fit (⋆ 𝓛 (‵ (froom τ bs.0 zero) ∷ ‵ (fdies τ bs.0) ∷ Γ)) _ (via 𝓤 _ (into 𝓛 (params ls vs bs.1) (‵ (froom τ bs.0 zero) ∷ ‵ (fdies τ bs.0) ∷ Γ)) (k bs).prf)))

module _ {M : Type 1} {𝓤 : Ura M} {𝓛 : Logic 𝓤} {K : Type 0} {Γ : List (Item 𝓤)} where
  open 𝓛 use {H}

  pub enters : K → (C : Calls 𝓤 H) (Λ : Loops 𝓤 H) (f : Fn) (ls : List Local) → f.locals ≡ ls → (vs : List Val) (Kf : Val → SProp 𝓤) → Fit ls vs
      → ((bs : Spots ls) → Seq K 𝓛 (laid 𝓛 (begun ls vs bs) Γ) (runs C Λ (env_of 𝓛 (params ls [] bs)) f.body (at_ret (env_of 𝓛 (params ls [] bs)) Kf)))
      → Seq K 𝓛 Γ (prop (WpFn 𝓤 H C Λ f vs Kf))
  unfolding WpFn
  enters t C Λ f ls e vs Kf fit k = record { prf = subst (λ (ms : List Local). ent 𝓤 (⋆ 𝓛 Γ) (alloc 𝓤 H ms (λ E. params' 𝓤 H E vs (Wp 𝓤 H C Λ E f.body (at_return 𝓤 H E Kf))))) (sym e) (began _ C Λ f vs Kf ls fit k) }

  pub leaves : K → (hs : List Holding) {E : Env 𝓤 H} {g : Goal 𝓤 H} → Γ ≡ laid 𝓛 (cells_of 𝓛 E hs) (past 𝓛 E Γ) → Step K 𝓛 (past 𝓛 E Γ) g Γ (frees E g)
  leaves t hs {E} {g} e = step (λ s. record {
    prf = subst (λ (Δ : List (Item 𝓤)). ent 𝓤 (⋆ 𝓛 Δ) (release 𝓤 H E (aim 𝓤 H g))) (sym e)
        (via 𝓤 _ (out 𝓛 (cells_of 𝓛 E hs) (past 𝓛 E Γ)) (via 𝓤 _ (mono_r 𝓤 (held 𝓛 (cells_of 𝓛 E hs)) s.prf) (freed 𝓛 E hs (aim 𝓤 H g))));
  })

  pub keeps : K → (k n : ℕ) (E : Env 𝓤 H) (hs : List Holding) {G : Goal 𝓤 H} → Γ ≡ firsts 𝓛 k Γ ++ laid 𝓛 (cells_of 𝓛 E hs) (past 𝓛 E (others 𝓛 k Γ)) → Step K 𝓛 (laid 𝓛 (cells_of 𝓛 E (front n hs)) (firsts 𝓛 k Γ)) G Γ G
  keeps t k n E hs {G} e = step (λ s. record {
    prf = subst (λ (Δ : List (Item 𝓤)). ent 𝓤 (⋆ 𝓛 Δ) (aim 𝓤 H G)) (sym e)
        (via 𝓤 _ (⊢++ 𝓛 (firsts 𝓛 k Γ) (laid 𝓛 (cells_of 𝓛 E hs) (past 𝓛 E (others 𝓛 k Γ))))
        (via 𝓤 _ (mono_r 𝓤 (⋆ 𝓛 (firsts 𝓛 k Γ)) (via 𝓤 _ (out 𝓛 (cells_of 𝓛 E hs) (past 𝓛 E (others 𝓛 k Γ))) (via 𝓤 _ (fst∗ 𝓤 (held 𝓛 (cells_of 𝓛 E hs)) (⋆ 𝓛 (past 𝓛 E (others 𝓛 k Γ)))) (let_go 𝓛 E n hs))))
        (via 𝓤 _ (comm∗ 𝓤 (⋆ 𝓛 (firsts 𝓛 k Γ)) (held 𝓛 (cells_of 𝓛 E (front n hs)))) (via 𝓤 _ (into 𝓛 (cells_of 𝓛 E (front n hs)) (firsts 𝓛 k Γ)) s.prf))));
  })
