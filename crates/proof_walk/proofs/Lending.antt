-- What a function is lent and gives back, as entries of a context: a token for each lifetime, what each parameter owns, and what is left of each.
--     tokens, ownings, lefts       the entries
--     parted, joined               a chain of assertions, and a context that begins with them; starred     and one that holds nothing else
--     nothings     what is left of n parameters of which nothing is said
--     as_tokens, as_ownings, as_lefts      the chains are the kit's own
--     hands, takes     the entries that a function is lent, and the kit's assertion of them.        comes, returns     those that it gives back, from the front of a context and to its end
-- Assumes `Logic`.
use mathlib.Core.Path.{◌≡◌, refl, sym, subst, ap}
use Prim.Native.Nat.{ℕ, zero, suc}
use mathlib.Core.List.{List, [], ◌∷◌, ◌++◌}
use seplogic.Ra.Ura.{Ura}
use base.Logic.{SProp, ent, sep, emp, id⊢, via, snd∗, emp∗, comm∗, mono∗, mono_l, mono_r, assoc∗, assoc'}
use base.Fml.{flft, ftrue}
use types.Logic.{Logic, sem}
use contract.Lifetimes.{Lfts, Shares, toks}
use types.Kit.{Goal, Item, ‵, mean, ⋆, push, pop, ++⊢, Step, step, ◌$◌}
use denote.Exit.{left}
use denote.Steps.{nothing}
use denote.RattleType.{RattleType, Denots, Valss, owns}
use denote.Signature.{Slot, types_at}
use denote.Triple.Entry.{Args, Vals, alive, on_entry}
use denote.Triple.End.{Kepts, Fins, lasts_of}
use denote.Triple.Clauses.{Ended, Lasts, lasts}

module _ {M : Type 1} {𝓤 : Ura M} (𝓛 : Logic 𝓤) where
  open 𝓛 use {A}

  abbrev Cx : Type 2
  Cx = List (Item 𝓤)

  abbrev pub tokens : (n : ℕ) → Lfts n → Shares n → Cx
  tokens zero κs qs = []
  tokens (suc n) κs qs = ‵ (flft κs.0 qs.0) ∷ tokens n κs.1 qs.1

  abbrev pub ownings : (Ts : List RattleType) → Denots Ts → Valss Ts → Cx
  ownings [] a vss = []
  ownings (T ∷ Ts) a vss = ‵ (T.own_val a.0 vss.0) ∷ ownings Ts a.1 vss.1

  abbrev pub lefts : {n : ℕ} (κs : Lfts n) (ss : List (Slot n)) (ks : Kepts ss) (a : Denots (types_at ss κs)) → Fins κs ss ks a → Cx
  lefts κs [] ks a ws = []
  lefts κs (s ∷ ss) ks a ws = ‵ (left ((s.row κs).exit ks.0) a.0 ws.0) ∷ lefts κs ss ks.1 a.1 ws.1

  unfoldable pub chain : Cx → SProp 𝓤
  chain [] = emp 𝓤
  chain (i ∷ Γ) = sep 𝓤 (mean 𝓛 i) (chain Γ)

  pub parted : (Δ Γ : Cx) → ent 𝓤 (sep 𝓤 (chain Δ) (⋆ 𝓛 Γ)) (⋆ 𝓛 (Δ ++ Γ))
  unfolding chain
  parted [] Γ = snd∗ 𝓤 (emp 𝓤) (⋆ 𝓛 Γ)
  parted (i ∷ Δ) Γ = via 𝓤 _ (assoc∗ 𝓤 (mean 𝓛 i) (chain Δ) (⋆ 𝓛 Γ)) (via 𝓤 _ (mono_r 𝓤 (mean 𝓛 i) (parted Δ Γ)) (push 𝓛 i (Δ ++ Γ)))

  pub joined : (Δ Γ : Cx) → ent 𝓤 (⋆ 𝓛 (Δ ++ Γ)) (sep 𝓤 (chain Δ) (⋆ 𝓛 Γ))
  unfolding chain
  joined [] Γ = emp∗ 𝓤 (⋆ 𝓛 Γ)
  joined (i ∷ Δ) Γ = via 𝓤 _ (pop 𝓛 i (Δ ++ Γ)) (via 𝓤 _ (mono_r 𝓤 (mean 𝓛 i) (joined Δ Γ)) (assoc' 𝓤 (mean 𝓛 i) (chain Δ) (⋆ 𝓛 Γ)))

  pub starred : (Γ : Cx) → ent 𝓤 (chain Γ) (⋆ 𝓛 Γ)
  unfolding chain
  starred [] = id⊢ 𝓤 (emp 𝓤)
  starred (i ∷ Γ) = via 𝓤 _ (mono_r 𝓤 (mean 𝓛 i) (starred Γ)) (push 𝓛 i Γ)

  same : {P Q : SProp 𝓤} → P ≡ Q → ent 𝓤 P Q
  same {P} {Q} e = subst (λ (X : SProp 𝓤). ent 𝓤 P X) e (id⊢ 𝓤 P)

  as_tokens : (n : ℕ) (κs : Lfts n) (qs : Shares n) → chain (tokens n κs qs) ≡ toks 𝓛 n κs qs
  unfolding chain
  as_tokens zero κs qs = refl
  as_tokens (suc n) κs qs = ap (λ (P : SProp 𝓤). sep 𝓤 (A.lft κs.0 qs.0) P) (as_tokens n κs.1 qs.1)

  as_ownings : (Ts : List RattleType) (a : Denots Ts) (vss : Valss Ts) → chain (ownings Ts a vss) ≡ sem 𝓛 (owns Ts a vss)
  unfolding chain
  as_ownings [] a vss = refl
  as_ownings (T ∷ Ts) a vss = ap (λ (P : SProp 𝓤). sep 𝓤 (sem 𝓛 (T.own_val a.0 vss.0)) P) (as_ownings Ts a.1 vss.1)

  as_lefts : {n : ℕ} (κs : Lfts n) (ss : List (Slot n)) (ks : Kepts ss) (a : Denots (types_at ss κs)) (ws : Fins κs ss ks a) → chain (lefts κs ss ks a ws) ≡ sem 𝓛 (lasts_of κs ss ks a ws)
  unfolding chain
  as_lefts κs [] ks a ws = refl
  as_lefts κs (s ∷ ss) ks a ws = ap (λ (P : SProp 𝓤). sep 𝓤 (sem 𝓛 (left ((s.row κs).exit ks.0) a.0 ws.0)) P) (as_lefts κs ss ks.1 a.1 ws.1)

module _ {M : Type 1} {𝓤 : Ura M} (𝓛 : Logic 𝓤) (T : Ended) (κs : Lfts T.signature.lifetimes) (qs : Shares T.signature.lifetimes) (a : Args T.signature κs) where
  -- what a function is given, and what it gives back
  abbrev pub toks_of : List (Item 𝓤)
  toks_of = tokens 𝓛 T.signature.lifetimes κs qs

  abbrev pub own_of : Vals T.signature κs → List (Item 𝓤)
  own_of vss = ownings 𝓛 (types_at T.signature.params κs) a vss

  abbrev pub left_of_lem : Lasts T κs a → List (Item 𝓤)
  left_of_lem ws = lefts 𝓛 κs T.signature.params T.kept a ws

  module _ (Γ : List (Item 𝓤)) where
    pub hands : (vss : Vals T.signature κs) → ent 𝓤 (⋆ 𝓛 (toks_of ++ (own_of vss ++ Γ))) (sep 𝓤 (on_entry 𝓛 T.signature κs qs a vss) (⋆ 𝓛 Γ))
    hands vss =
        via 𝓤 _ (joined 𝓛 toks_of (own_of vss ++ Γ)) (via 𝓤 _ (mono_r 𝓤 (chain 𝓛 toks_of) (joined 𝓛 (own_of vss) Γ)) (via 𝓤 _ (assoc' 𝓤 (chain 𝓛 toks_of) (chain 𝓛 (own_of vss)) (⋆ 𝓛 Γ))
        (mono_l 𝓤 (⋆ 𝓛 Γ) (mono∗ 𝓤 (same 𝓛 (as_tokens 𝓛 T.signature.lifetimes κs qs)) (same 𝓛 (as_ownings 𝓛 (types_at T.signature.params κs) a vss))))))

    pub takes : (vss : Vals T.signature κs) → ent 𝓤 (sep 𝓤 (on_entry 𝓛 T.signature κs qs a vss) (⋆ 𝓛 Γ)) (⋆ 𝓛 (toks_of ++ (own_of vss ++ Γ)))
    takes vss =
        via 𝓤 _ (mono_l 𝓤 (⋆ 𝓛 Γ) (mono∗ 𝓤 (same 𝓛 (sym (as_tokens 𝓛 T.signature.lifetimes κs qs))) (same 𝓛 (sym (as_ownings 𝓛 (types_at T.signature.params κs) a vss)))))
        (via 𝓤 _ (assoc∗ 𝓤 (chain 𝓛 toks_of) (chain 𝓛 (own_of vss)) (⋆ 𝓛 Γ)) (via 𝓤 _ (mono_r 𝓤 (chain 𝓛 toks_of) (parted 𝓛 (own_of vss) Γ)) (parted 𝓛 toks_of (own_of vss ++ Γ))))

    module _ (ws : Lasts T κs a) where
      pub returns : ent 𝓤 (sep 𝓤 (alive 𝓛 T.signature κs qs) (sep 𝓤 (sem 𝓛 (lasts T κs a ws)) (⋆ 𝓛 Γ))) (⋆ 𝓛 (Γ ++ (toks_of ++ left_of_lem ws)))
      returns =
          via 𝓤 _ (assoc' 𝓤 (alive 𝓛 T.signature κs qs) (sem 𝓛 (lasts T κs a ws)) (⋆ 𝓛 Γ))
          (via 𝓤 _ (mono_l 𝓤 (⋆ 𝓛 Γ) (via 𝓤 _ (mono∗ 𝓤 (same 𝓛 (sym (as_tokens 𝓛 T.signature.lifetimes κs qs))) (via 𝓤 _ (same 𝓛 (sym (as_lefts 𝓛 κs T.signature.params T.kept a ws))) (starred 𝓛 (left_of_lem ws)))) (parted 𝓛 toks_of (left_of_lem ws))))
          (via 𝓤 _ (comm∗ 𝓤 (⋆ 𝓛 (toks_of ++ left_of_lem ws)) (⋆ 𝓛 Γ)) (++⊢ 𝓛 Γ (toks_of ++ left_of_lem ws))))

      pub comes : ent 𝓤 (⋆ 𝓛 (toks_of ++ (left_of_lem ws ++ Γ))) (sep 𝓤 (alive 𝓛 T.signature κs qs) (sep 𝓤 (sem 𝓛 (lasts T κs a ws)) (⋆ 𝓛 Γ)))
      comes =
          via 𝓤 _ (joined 𝓛 toks_of (left_of_lem ws ++ Γ))
          (mono∗ 𝓤 (same 𝓛 (as_tokens 𝓛 T.signature.lifetimes κs qs)) (via 𝓤 _ (joined 𝓛 (left_of_lem ws) Γ) (mono_l 𝓤 (⋆ 𝓛 Γ) (same 𝓛 (as_lefts 𝓛 κs T.signature.params T.kept a ws)))))

abbrev trues : {M : Type 1} {𝓤 : Ura M} → ℕ → List (Item 𝓤) → List (Item 𝓤)
trues zero Γ = Γ
trues (suc n) Γ = ‵ ftrue ∷ trues n Γ

pub nothings : {M : Type 1} {𝓤 : Ura M} {𝓛 : Logic 𝓤} {K : Type 0} {Γ : List (Item 𝓤)} {G : Goal 𝓤 𝓛.H} → K → (n : ℕ) → Step K 𝓛 (trues n Γ) G Γ G
nothings t zero = step (λ s. s)
nothings t (suc n) = step (λ s. nothings t n $ (nothing t $ s))
