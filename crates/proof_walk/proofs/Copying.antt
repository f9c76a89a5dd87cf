-- A reference in a walk by hand that is needed again.
--     copies_ref      what a `&T` owns is had once more, in front
-- Assumes `Logic`.
use mathlib.Core.Path.{◌≡◌, subst}
use Prim.Native.Nat.{ℕ}
use mathlib.Core.List.{List, ◌∷◌}
use seplogic.Ra.Ura.{Ura}
use mir.Syntax.{erased}
use base.Logic.{ent, sep, via, assoc∗, mono_l, mono_r}
use base.Fml.{Lft}
use types.Logic.{Logic, sem}
use types.Kit.{Goal, Item, ‵, mean, nth, del, ⋆, push, pull, unpull, Step, step, by}
use denote.RattleType.{RattleType, RowLaws}
use denote.Ref.{Bor, ShrRef, shr_vals, shr_copy}

module _ {M : Type 1} {𝓤 : Ura M} {𝓛 : Logic 𝓤} {K : Type 0} {Γ : List (Item 𝓤)} {G : Goal 𝓤 𝓛.H} where
  pub copies_ref : K → (n : ℕ) (κ : Lft) (R : RattleType) (laws : RowLaws R) (x : Bor R.Denot) → nth 𝓛 n Γ ≡ ‵ ((ShrRef erased κ R).own_val x (shr_vals x)) → Step K 𝓛 (‵ ((ShrRef erased κ R).own_val x (shr_vals x)) ∷ Γ) G Γ G
  copies_ref t n κ R laws x e = step (λ s. by t (via 𝓤 _ two (via 𝓤 _ (push 𝓛 (‵ ((ShrRef erased κ R).own_val x (shr_vals x))) Γ) s.prf)))
    where
      out : ent 𝓤 (⋆ 𝓛 Γ) (sep 𝓤 (sem 𝓛 ((ShrRef erased κ R).own_val x (shr_vals x))) (⋆ 𝓛 (del 𝓛 n Γ)))
      out = subst (λ (j : Item 𝓤). ent 𝓤 (⋆ 𝓛 Γ) (sep 𝓤 (mean 𝓛 j) (⋆ 𝓛 (del 𝓛 n Γ)))) e (pull 𝓛 n Γ)

      back : ent 𝓤 (sep 𝓤 (sem 𝓛 ((ShrRef erased κ R).own_val x (shr_vals x))) (⋆ 𝓛 (del 𝓛 n Γ))) (⋆ 𝓛 Γ)
      back = subst (λ (j : Item 𝓤). ent 𝓤 (sep 𝓤 (mean 𝓛 j) (⋆ 𝓛 (del 𝓛 n Γ))) (⋆ 𝓛 Γ)) e (unpull 𝓛 n Γ)

      two : ent 𝓤 (⋆ 𝓛 Γ) (sep 𝓤 (sem 𝓛 ((ShrRef erased κ R).own_val x (shr_vals x))) (⋆ 𝓛 Γ))
      two = via 𝓤 _ out (via 𝓤 _ (mono_l 𝓤 (⋆ 𝓛 (del 𝓛 n Γ)) ((shr_copy 𝓛 erased κ R laws).twice x (shr_vals x))) (via 𝓤 _ (assoc∗ 𝓤 (sem 𝓛 ((ShrRef erased κ R).own_val x (shr_vals x))) (sem 𝓛 ((ShrRef erased κ R).own_val x (shr_vals x))) (⋆ 𝓛 (del 𝓛 n Γ))) (mono_r 𝓤 (sem 𝓛 ((ShrRef erased κ R).own_val x (shr_vals x))) back)))
