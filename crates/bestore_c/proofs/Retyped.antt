-- A `&mut` is lent on as a `&mut` of another type, which owns the same at the same place. Assumes `Logic`.
use Rattle.std.proofs.Common.{ℕ, List, [], ◌∷◌, refl}
use seplogic.Ra.Ura.{Ura}
use mir.Syntax.{Lifetime}
use mir.Val.{Val, vptr}
use base.Logic.{SProp, ent, sep, ex, emp}
use base.Fml.{Lft, GName, Share, flft, fobs, fbor}
use types.Logic.{Logic, sem}
use types.Kit.{Item, ‵, raw, ◌⊛◌, ◌$◌, ◌∵◌, !, qed, by, move, drop, fsplit3, updating, await, later, some, use1, group, pick, now, show, done, split3, fjoin3, feq_i}
use types.SemTy.{Body}
use types.Follow.{takes_part}
use types.Mut.{open_ref}
use denote.RattleType.{RattleType}
use denote.Memory.{mem}
use denote.Ref.{MutRef}
use denote.Steps.{nothing}
use denote.Follow.{follows}

module _ {M : Type 1} {𝓤 : Ura M} (𝓛 : Logic 𝓤) (R T : RattleType) (G : T.Denot → R.Denot) (b o : ℕ)
    (back : (w : T.Denot) → ent 𝓤 (sem 𝓛 ((mem T).own_at w b o)) (sem 𝓛 ((mem R).own_at (G w) b o)))
    (ℓ : Lifetime) (κ : Lft) (q : Share) (γ : GName) (y : T.Denot)
    (there : ent 𝓤 (sem 𝓛 ((mem R).own_at (G y) b o)) (sem 𝓛 ((mem T).own_at y b o))) where
  open 𝓛 use {H, A}

  abbrev pub retyped : GName → Item 𝓤
  retyped δ = ‵ ((MutRef ℓ κ T).own_val (record { ref_ptr = (b, o); ghost_name = δ; now = y }) (vptr b o ∷ [])) ⊛ ‵ (flft κ q) ⊛ ‵ (follows R T γ δ G)

  abbrev Retyped : GName → SProp 𝓤
  Retyped δ = sep 𝓤 (sem 𝓛 ((MutRef ℓ κ T).own_val (record { ref_ptr = (b, o); ghost_name = δ; now = y }) (vptr b o ∷ []))) (sep 𝓤 (A.lft κ q) (sem 𝓛 (follows R T γ δ G)))

  put : (w : T.Denot) → ent 𝓤 (sep 𝓤 (sem 𝓛 ((mem T).own_at w b o)) (emp 𝓤)) (sem 𝓛 ((mem R).own_at (G w) b o))
  put w = qed 𝓛 (‵ ((mem T).own_at w b o) ∷ raw (emp 𝓤) ∷ []) ∵ move ! (1 ∷ []) $ drop ! $ by ! (back w)

  pub lends_retyped : (vs : List Val)
      → ent 𝓤 (sep 𝓤 (sem 𝓛 ((MutRef ℓ κ R).own_val (record { ref_ptr = (b, o); ghost_name = γ; now = G y }) vs)) (A.lft κ q)) (H.⇛ (ex 𝓤 Retyped))
  lends_retyped vs = qed 𝓛 (‵ ((MutRef ℓ κ R).own_val (record { ref_ptr = (b, o); ghost_name = γ; now = G y }) vs) ∷ ‵ (flft κ q) ∷ []) ∵ updating ! $ fsplit3 ! $ drop ! $
      open_ref ! tt (mem R) {b = b} {o = o} $ use1 𝓛 (‵ ((mem T).own_at y b o)) there $ nothing ! $ move ! (2 ∷ 3 ∷ 4 ∷ 1 ∷ 0 ∷ []) $ group ! 5 $
      use1 𝓛 (later (some (λ (δ : GName). ‵ (fobs δ (T.coded.code y)) ⊛ ‵ (fbor κ (Body (mem T) b o δ)) ⊛ ‵ (flft κ q) ⊛ ‵ (follows R T γ δ G))))
      (takes_part 𝓛 (mem R) (mem T) G κ q b o b o γ (emp 𝓤) put (R.coded.code (G y)) (R.coded.code (G y)) y) $ await ! tt $ pick ! (λ δ. split3 ! $
      feq_i ! (List Val) (vptr b o ∷ []) (vptr b o ∷ []) refl $ fjoin3 ! $ now ! $ show ! Retyped δ $ done !)
