-- Whole steps of a walk by hand: a function is entered with what it is lent laid out, a call takes what it is lent out of the context and puts what is left of it behind, and a walk ends with what is left of each parameter.
--     meets        a function meets its contract if its body runs from its locals, its parameters' values written out and in them, with the tokens and what the parameters own behind
--     meets_by     the same, with the locals' types written out by name: cheaper to check where they are structs
--     calls        a call. What the callee is lent stands in front; the tokens and what is left of each argument go to the end
--     calls_last   the same of a call that is the last statement of its part, as of a loop's turn
--     two_facts, two_asked     two facts that a callee says are one; two that it asks
--     lands_at     what a call returns goes to a local of its own
--     look_as      a local is read whose value is told by an equation.        field_of_lem     a field of a local: its type and its place are given, since what antt finds for them is large
--     ends         the walk's end: the tokens, what is left of each parameter and what the result owns stand in front
-- Assumes `Logic`, and `FmC` of the table of calls where there is a call.
use mathlib.Core.Path.{◌≡◌, refl, subst, sym, ap}
use Prim.Native.Nat.{ℕ}
use mathlib.Core.List.{List, [], ◌∷◌, ◌++◌}
use seplogic.Ra.Ura.{Ura}
use base.Fraction.{full_share}
use lib.Dec.{T as So}
use mathlib.Core.Option.{some as found}
use mir.Syntax.{Callee, Sym, Ty, Tys, ty_struct, Local, Place, place, field, Opd as Operand, copy, Body, Fn, seq, call}
use mir.Val.{Val, Vals as Vals', vstruct, WT, has_ty}
use mir.Fields.{get_v}
use base.Logic.{SProp, ent, sep, wand, ex, emp, id⊢, via, comm∗, emp∗, fst∗, snd∗, mono∗, mono_l, mono_r, wand_i, apply∗}
use base.Fml.{Share, fat, froom}
use prog.Memory.{field_at, field_of}
use prog.Wp.{Env, Calls, Loops, WpFn, spot_of}
use types.Logic.{Logic, sem}
use contract.Monad.{fact, fact_i, fact_use}
use contract.Lifetimes.{Lfts, Shares, AllOutlive}
use sound.WpLaws.{FmC}
use types.Kit.{Go, Item, ‵, raw, ◌⊛◌, some, later, nth, put, ⋆, push, pop, Post, prop, runs, lands, settles, at_ret, Seq, Step, ◌$◌, ◌∵◌, !, qed, by, move, keep, use1, split, join, pick, await, updating, now as at_once, show, frame, regoal}
use types.Part.{Part, whole, sub, look_in}
use types.Run.{Opd, Opds, Reads, first, land, from, stop, fld, init, load, look}
use denote.RattleType.{flat}
use denote.Laws.{Is, Ises, Are, Spells, valss, Tells, Tellss, shows}
use denote.Signature.{type_at, types_at}
use denote.Steps.{only, heard, facts, said}
use denote.Triple.Statement.{Triple}
use denote.Triple.Call.{calls_at_last}
use denote.Triple.Entry.{Args, Vals, Res, alive, on_entry}
use denote.Triple.Bound.{Bound, passed}
use denote.Triple.Spec.{triple_of}
use denote.Triple.Clauses.{Ended, Clauses, Lasts, at_exit, lasts, ensured, closing}
use Rattle.proof_walk.proofs.Locals.{Spots, Fit, params, begun, env_of, laid, enters}
use Rattle.proof_walk.proofs.Lending.{toks_of, own_of, left_of_lem, hands, takes, returns, comes}

module _ {M : Type 1} {𝓤 : Ura M} {𝓛 : Logic 𝓤} {K : Type 0} {Γ : List (Item 𝓤)} {E : Env 𝓤 𝓛.H} {C : Calls 𝓤 𝓛.H} {Λ : Loops 𝓤 𝓛.H} {q : Post 𝓤 𝓛.H} {f : Callee} {xs : List Operand} {d : Place} where
  open 𝓛 use {H}

  pub calls_last : K → FmC 𝓤 H 𝓛.laws C → (T : Ended) (c : Clauses 𝓤 T) → Triple 𝓤 (C f) (triple_of 𝓛 T.signature (closing 𝓛 T c))
      → (x : Bound 𝓛 T.signature) (g : (c x.0 x.3).ghost) → ent 𝓤 (emp 𝓤) ((c x.0 x.3).requires g)
      → (Φ : Res T.signature x.0 → Lasts T x.0 x.3 → Type 0) → ((r : Res T.signature x.0) (ws : Lasts T x.0 x.3) → ent 𝓤 ((c x.0 x.3).ensures g r (at_exit T x.0 x.3 ws)) (fact 𝓤 (Φ r ws)))
      → (val : Res T.signature x.0 → Val) → Tells (type_at T.signature.result x.0) (Is (type_at T.signature.result x.0)) (λ r. val r ∷ [])
      → {Δ : List (Item 𝓤)} → Γ ≡ toks_of 𝓛 T x.0 x.1 x.3 ++ (own_of 𝓛 T x.0 x.1 x.3 x.4 ++ Δ)
      → Opds K 𝓛 (raw ((triple_of 𝓛 T.signature (closing 𝓛 T c)).pre (x, g)) ∷ Δ) E xs (passed 𝓛 T.signature x)
      → ((r : Res T.signature x.0) (ws : Lasts T x.0 x.3) → Φ r ws → Is (type_at T.signature.result x.0) r (val r ∷ []) → Seq K 𝓛 (Δ ++ (toks_of 𝓛 T x.0 x.1 x.3 ++ left_of_lem 𝓛 T x.0 x.1 x.3 ws)) (settles E d (val r) q))
      → Seq K 𝓛 Γ (runs C Λ E (call f xs d) q)
  calls_last t fm T c met x g asked Φ says val tells {Δ} e os k = subst (λ (Θ : List (Item 𝓤)). Seq K 𝓛 Θ (runs C Λ E (call f xs d) q)) (sym e) (record { prf = via 𝓤 _ (hands 𝓛 T x.0 x.1 x.3 Δ x.4) (via 𝓤 _ pre called.prf) })
    where
      pre : ent 𝓤 (sep 𝓤 (on_entry 𝓛 T.signature x.0 x.1 x.3 x.4) (⋆ 𝓛 Δ)) (⋆ 𝓛 (raw ((triple_of 𝓛 T.signature (closing 𝓛 T c)).pre (x, g)) ∷ Δ))
      pre =
          via 𝓤 _ (mono_l 𝓤 (⋆ 𝓛 Δ) (via 𝓤 _ (via 𝓤 _ (emp∗ 𝓤 (on_entry 𝓛 T.signature x.0 x.1 x.3 x.4)) (mono_l 𝓤 (on_entry 𝓛 T.signature x.0 x.1 x.3 x.4) asked)) (comm∗ 𝓤 ((c x.0 x.3).requires g) (on_entry 𝓛 T.signature x.0 x.1 x.3 x.4))))
          (push 𝓛 (raw ((triple_of 𝓛 T.signature (closing 𝓛 T c)).pre (x, g))) Δ)

      called : Seq K 𝓛 (raw ((triple_of 𝓛 T.signature (closing 𝓛 T c)).pre (x, g)) ∷ Δ) (runs C Λ E (call f xs d) q)
      called =
          calls_at_last t fm (triple_of 𝓛 T.signature (closing 𝓛 T c)) met (x, g) os (λ u.
          use1 𝓛 (later (some (λ (r : Res T.signature x.0). (raw (alive 𝓛 T.signature x.0 x.1) ⊛ ‵ ((type_at T.signature.result x.0).own_val r (u ∷ []))) ⊛ some (λ (ws : Lasts T x.0 x.3). ‵ (lasts T x.0 x.3 ws) ⊛ raw ((c x.0 x.3).ensures g r (at_exit T x.0 x.3 ws)))))) (id⊢ 𝓤 _) $ await t tt $ pick t (λ r.
          split t $ move t (1 ∷ []) $ pick t (λ ws. split t $ move t (1 ∷ []) $ use1 𝓛 (raw (fact 𝓤 (Φ r ws))) (says r ws) $ heard t (Φ r ws) (λ so. move t (1 ∷ []) $ split t $ move t (1 ∷ []) $
          facts t (type_at T.signature.result x.0) (Is (type_at T.signature.result x.0)) (shows 𝓛 (type_at T.signature.result x.0)) r (u ∷ []) (λ is.
          regoal t (λ (v : Val). settles E d v q) (ap only (tells r (u ∷ []) is)) refl $ by t (via 𝓤 _ (mono_r 𝓤 (alive 𝓛 T.signature x.0 x.1) (pop 𝓛 (‵ (lasts T x.0 x.3 ws)) Δ)) (via 𝓤 _ (returns 𝓛 T x.0 x.1 x.3 Δ ws) (k r ws so (subst (Is (type_at T.signature.result x.0) r) (tells r (u ∷ []) is) is)).prf)))))))

module _ {M : Type 1} {𝓤 : Ura M} {𝓛 : Logic 𝓤} {K : Type 0} {Γ : List (Item 𝓤)} {E : Env 𝓤 𝓛.H} {C : Calls 𝓤 𝓛.H} {Λ : Loops 𝓤 𝓛.H} {q : Post 𝓤 𝓛.H} {f : Callee} {xs : List Operand} {d : Place} {rest : Body} where
  open 𝓛 use {H}

  pub calls : K → FmC 𝓤 H 𝓛.laws C → (T : Ended) (c : Clauses 𝓤 T) → Triple 𝓤 (C f) (triple_of 𝓛 T.signature (closing 𝓛 T c))
      → (x : Bound 𝓛 T.signature) (g : (c x.0 x.3).ghost) → ent 𝓤 (emp 𝓤) ((c x.0 x.3).requires g)
      → (Φ : Res T.signature x.0 → Lasts T x.0 x.3 → Type 0) → ((r : Res T.signature x.0) (ws : Lasts T x.0 x.3) → ent 𝓤 ((c x.0 x.3).ensures g r (at_exit T x.0 x.3 ws)) (fact 𝓤 (Φ r ws)))
      → (val : Res T.signature x.0 → Val) → Tells (type_at T.signature.result x.0) (Is (type_at T.signature.result x.0)) (λ r. val r ∷ [])
      → {Δ : List (Item 𝓤)} → Γ ≡ toks_of 𝓛 T x.0 x.1 x.3 ++ (own_of 𝓛 T x.0 x.1 x.3 x.4 ++ Δ)
      → Opds K 𝓛 (raw ((triple_of 𝓛 T.signature (closing 𝓛 T c)).pre (x, g)) ∷ Δ) E xs (passed 𝓛 T.signature x)
      → ((r : Res T.signature x.0) (ws : Lasts T x.0 x.3) → Φ r ws → Is (type_at T.signature.result x.0) r (val r ∷ []) → Seq K 𝓛 (Δ ++ (toks_of 𝓛 T x.0 x.1 x.3 ++ left_of_lem 𝓛 T x.0 x.1 x.3 ws)) (lands C Λ E d (val r) rest q))
      → Seq K 𝓛 Γ (runs C Λ E (seq (call f xs d) rest) q)
  calls t fm T c met x g asked Φ says val tells e os k = first t $ calls_last t fm T c met x g asked Φ says val tells e os (λ r ws so is. record { prf = (k r ws so is).prf })

module _ {M : Type 1} (𝓤 : Ura M) {φ ψ : Type 0} where
  pub two_facts : ent 𝓤 (sep 𝓤 (fact 𝓤 φ) (fact 𝓤 ψ)) (fact 𝓤 (φ × ψ))
  two_facts = fact_use 𝓤 φ (fst∗ 𝓤 (fact 𝓤 φ) (fact 𝓤 ψ)) (λ p. fact_use 𝓤 ψ (snd∗ 𝓤 (fact 𝓤 φ) (fact 𝓤 ψ)) (λ q. fact_i 𝓤 (φ × ψ) _ (p, q)))

  pub two_asked : φ → ψ → ent 𝓤 (emp 𝓤) (sep 𝓤 (fact 𝓤 φ) (fact 𝓤 ψ))
  two_asked p q = via 𝓤 _ (emp∗ 𝓤 (emp 𝓤)) (mono∗ 𝓤 (fact_i 𝓤 φ (emp 𝓤) p) (fact_i 𝓤 ψ (emp 𝓤) q))

module _ {M : Type 1} {𝓤 : Ura M} {𝓛 : Logic 𝓤} {K : Type 0} {Γ : List (Item 𝓤)} where
  open 𝓛 use {H}

  pub lands_at : K → (n : ℕ) {E : Env 𝓤 H} {C : Calls 𝓤 H} {Λ : Loops 𝓤 H} {q : Post 𝓤 H} {i : ℕ} {rest : Body} {v : Val} → nth 𝓛 n Γ ≡ ‵ (froom (spot_of 𝓤 H E i).0 (spot_of 𝓤 H E i).1 (spot_of 𝓤 H E i).2) → So (has_ty (spot_of 𝓤 H E i).0 v) × WT v
      → Step K 𝓛 (put 𝓛 n (‵ (fat full_share (spot_of 𝓤 H E i).0 (spot_of 𝓤 H E i).1 (spot_of 𝓤 H E i).2 v)) Γ) (runs C Λ E rest q) Γ (lands C Λ E (place i []) v rest q)
  lands_at t n e fits = land t (from t (stop t)) (init t n e fits)

  pub look_as : K → (n : ℕ) {s : Share} {τ : Ty} {b o : ℕ} {v v' : Val} → nth 𝓛 n Γ ≡ ‵ (fat s τ b o v) → v ≡ v' → Reads K 𝓛 Γ τ b o v'
  look_as t n {τ = τ} {b = b} {o = o} e is = subst (λ (u : Val). Reads K 𝓛 Γ τ b o u) is (look t n e)

  pub field_of_lem : K → (n k : ℕ) (τ : Ty) (d : ℕ) {E : Env 𝓤 H} {i : ℕ} {ν : Sym} {τs : Tys} {vs : Vals'} {s : Share} → nth 𝓛 n Γ ≡ ‵ (fat s (ty_struct ν τs) (spot_of 𝓤 H E i).1 (spot_of 𝓤 H E i).2 (vstruct vs)) → field_at 0 τs k ≡ found (τ, d) → field_of (spot_of 𝓤 H E i).0 k ≡ found (τ, d)
      → Opd K 𝓛 Γ E (copy (place i (field k ∷ []))) (get_v vs k)
  field_of_lem t n k τ d {E} {i} {ν} {τs} {vs} {s} e in_type in_place =
      load t (from t (fld t in_place (stop t))) (look_in t n (sub t k in_type (subst (λ (j : Item 𝓤). Part K 𝓛 j s (ty_struct ν τs) (spot_of 𝓤 H E i).1 (spot_of 𝓤 H E i).2 (vstruct vs) (λ u. ‵ (fat s (ty_struct ν τs) (spot_of 𝓤 H E i).1 (spot_of 𝓤 H E i).2 u))) (sym e) (whole t))))

  pub ends : K → (T : Ended) (c : Clauses 𝓤 T) (κs : Lfts T.signature.lifetimes) (qs : Shares T.signature.lifetimes) (a : Args T.signature κs) (g : (c κs a).ghost) (v : Val) (r : Res T.signature κs) (ws : Lasts T κs a) → ent 𝓤 (emp 𝓤) ((c κs a).ensures g r (at_exit T κs a ws))
      → (Δ : List (Item 𝓤)) → Γ ≡ toks_of 𝓛 T κs qs a ++ (left_of_lem 𝓛 T κs qs a ws ++ (‵ ((type_at T.signature.result κs).own_val r (v ∷ [])) ∷ Δ))
      → Seq K 𝓛 Γ (prop (H.⇛ (ex 𝓤 (λ (r' : Res T.signature κs). sep 𝓤 (sep 𝓤 (alive 𝓛 T.signature κs qs) (sem 𝓛 ((type_at T.signature.result κs).own_val r' (v ∷ [])))) (ensured 𝓛 T c κs a g r')))))
  ends t T c κs qs a g v r ws so Δ e =
      subst (λ (Θ : List (Item 𝓤)). Seq K 𝓛 Θ (prop (H.⇛ (ex 𝓤 Returned)))) (sym e) (record { prf = via 𝓤 _ (comes 𝓛 T κs qs a (own ∷ Δ) ws) (via 𝓤 _ (mono_r 𝓤 (alive 𝓛 T.signature κs qs) (mono_r 𝓤 (sem 𝓛 (lasts T κs a ws)) (pop 𝓛 own Δ))) shown) })
    where
      own : Item 𝓤
      own = ‵ ((type_at T.signature.result κs).own_val r (v ∷ []))

      Returned : Res T.signature κs → SProp 𝓤
      Returned r' = sep 𝓤 (sep 𝓤 (alive 𝓛 T.signature κs qs) (sem 𝓛 ((type_at T.signature.result κs).own_val r' (v ∷ [])))) (ensured 𝓛 T c κs a g r')

      shown : ent 𝓤 (sep 𝓤 (alive 𝓛 T.signature κs qs) (sep 𝓤 (sem 𝓛 (lasts T κs a ws)) (sep 𝓤 (sem 𝓛 ((type_at T.signature.result κs).own_val r (v ∷ []))) (⋆ 𝓛 Δ)))) (H.⇛ (ex 𝓤 Returned))
      shown =
          qed 𝓛 (raw (alive 𝓛 T.signature κs qs) ∷ ‵ (lasts T κs a ws) ∷ ‵ ((type_at T.signature.result κs).own_val r (v ∷ [])) ∷ raw (⋆ 𝓛 Δ) ∷ []) ∵ updating ! $ at_once ! $ keep ! (0 ∷ 2 ∷ 1 ∷ []) $
          show ! Returned r $ join ! $ frame ! $ show ! (λ (zs : Lasts T κs a). sep 𝓤 (sem 𝓛 (lasts T κs a zs)) ((c κs a).ensures g r (at_exit T κs a zs))) ws $ frame ! $ by ! so

module _ {M : Type 1} {𝓤 : Ura M} (𝓛 : Logic 𝓤) (C : Calls 𝓤 𝓛.H) (Λ : Loops 𝓤 𝓛.H) (T : Ended) (c : Clauses 𝓤 T) (f : Fn) (ls : List Local) (sp : (κs : Lfts T.signature.lifetimes) → Spells (types_at T.signature.params κs)) where
  open 𝓛 use {H}

  abbrev pub at : (κs : Lfts T.signature.lifetimes) → Args T.signature κs → Vals T.signature κs
  at κs a = valss (types_at T.signature.params κs) (sp κs) a

  -- what is to be shown, and what follows
  abbrev pub Meeting : Type 1
  Meeting = ((κs : Lfts T.signature.lifetimes) → Tellss (types_at T.signature.params κs) (Ises (types_at T.signature.params κs)) (sp κs))
      → ((κs : Lfts T.signature.lifetimes) (a : Args T.signature κs) → Are (types_at T.signature.params κs) (Ises (types_at T.signature.params κs)) a (at κs a) → Fit ls (flat (types_at T.signature.params κs) (at κs a)))
      → ((κs : Lfts T.signature.lifetimes) (qs : Shares T.signature.lifetimes) (bounds : AllOutlive T.signature.lifetimes T.signature.outlives κs) (a : Args T.signature κs) (g : (c κs a).ghost)
      → Are (types_at T.signature.params κs) (Ises (types_at T.signature.params κs)) a (at κs a) → (bs : Spots ls)
      → Seq (Go {0}) 𝓛 (laid 𝓛 (begun ls (flat (types_at T.signature.params κs) (at κs a)) bs) (toks_of 𝓛 T κs qs a ++ (own_of 𝓛 T κs qs a (at κs a) ++ (raw ((c κs a).requires g) ∷ []))))
      (runs C Λ (env_of 𝓛 (params ls [] bs)) f.body (at_ret (env_of 𝓛 (params ls [] bs)) ((triple_of 𝓛 T.signature (closing 𝓛 T c)).post ((κs, qs, bounds, a, at κs a), g)))))
      → Triple 𝓤 (WpFn 𝓤 H C Λ f) (triple_of 𝓛 T.signature (closing 𝓛 T c))

  pub meets_by : f.locals ≡ ls → Meeting
  meets_by by_name tl fit walk y =
      via 𝓤 (sep 𝓤 R (wand 𝓤 R (Q y.0.4)))
      (via 𝓤 (sep 𝓤 (wand 𝓤 R (Q y.0.4)) R)
      (mono_l 𝓤 R (said 𝓛 T.signature y.0.0 y.0.1 (sp y.0.0) (tl y.0.0) y.0.3 (λ us. wand 𝓤 R (Q us)) y.0.4 (λ are. wand_i 𝓤 _ R _
      (via 𝓤 _ (takes 𝓛 T y.0.0 y.0.1 y.0.3 (raw R ∷ []) (at y.0.0 y.0.3)) (enters ! C Λ f ls by_name (flat (types_at T.signature.params y.0.0) (at y.0.0 y.0.3)) _ (fit y.0.0 y.0.3 are) (walk y.0.0 y.0.1 y.0.2 y.0.3 y.1 are)).prf))))
      (comm∗ 𝓤 (wand 𝓤 R (Q y.0.4)) R))
      (apply∗ 𝓤 R (Q y.0.4))
    where
      R : SProp 𝓤
      R = (c y.0.0 y.0.3).requires y.1

      Q : Vals T.signature y.0.0 → SProp 𝓤
      Q us = WpFn 𝓤 H C Λ f (flat (types_at T.signature.params y.0.0) us) ((triple_of 𝓛 T.signature (closing 𝓛 T c)).post ((y.0.0, y.0.1, y.0.2, y.0.3, us), y.1))

module _ {M : Type 1} {𝓤 : Ura M} (𝓛 : Logic 𝓤) (C : Calls 𝓤 𝓛.H) (Λ : Loops 𝓤 𝓛.H) (T : Ended) (c : Clauses 𝓤 T) (f : Fn) (sp : (κs : Lfts T.signature.lifetimes) → Spells (types_at T.signature.params κs)) where
  pub meets : Meeting 𝓛 C Λ T c f f.locals sp
  meets = meets_by 𝓛 C Λ T c f f.locals sp refl
