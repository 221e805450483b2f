-- `typed` lends the same memory as an `Owned`, which owns the same there.
use Rattle.std.proofs.Common.{ℕ, [], ◌∷◌, refl}
use seplogic.Ra.Ura.{Ura}
use base.Fml.{ftrue, flft}
use base.Logic.{ent, emp, id⊢}
use mir.Syntax.{named}
use mir.Val.{vptr}
use types.Logic.{Logic, sem}
use types.Kit.{‵, raw, ◌⊛◌, some, later, at_ret, ◌$◌, ◌∵◌, !, qed, move, keep, use2, split, split3, join, pick, await, fjoin, suffices, frame, done}
use types.Run.{stop, of_opd, first, blocks, exec, returns, enter, addr}
use types.ByLocal.{alloc_all, pass_all, free_all, look_at, get, through, sets, env, sets_last}
use contract.Running.{tables}
use denote.Exit.{no}
use denote.Memory.{mem, part_of}
use denote.Ref.{MutRef, mut_vals, mut_Tells}
use denote.RattleType.{RattleType}
use denote.Signature.{plain, mut_ref_to}
use denote.Steps.{nothing}
use denote.Triple.Walked.{says, Stays, stay_dropped, walk_of, ends_at, Goes-spent_ref}
use Rattle.std.proofs.VecSteps.Shapes.{after}
use Rattle.std.proofs.raw_atomic.Walks.{proved}
use Rattle.be_store_building.specs.contracts.builder.StoreBuilder.{the_row as Kept}
use Rattle.bestore_c.proofs.Retyped.{retyped, lends_retyped}
use Rattle.bestore_c.specs.Lent.{Owner, as_builder}
use Rattle.bestore_c.specs.contracts.handle.OwnedBuilder.{the_row as Own}
use Rattle.bestore_c.specs.contracts.handle.OwnedBuilder.typed as f
use Rattle.bestore_c.proofs.handle.OwnedBuilder.typed.Statement.{statement}
use Rattle.bestore_c.proofs.handle.OwnedBuilder.typed.Code as code

abbrev Typed : RattleType
Typed = Owner Kept

abbrev stayed : Stays f.ended.signature.params f.ended.kept
stayed = (stay_dropped (mut_ref_to (0 ∷ []) tt (plain (λ _. Own))) no, tt)

module _ {M : Type 1} {𝓤 : Ura M} (𝓛 : Logic 𝓤) (b o : ℕ) (w : Typed.Denot) where
  back : ent 𝓤 (sem 𝓛 ((mem Typed).own_at w b o)) (sem 𝓛 ((mem Own).own_at (as_builder w) b o))
  unfolding part_of
  back = id⊢ 𝓤 _

  there : ent 𝓤 (sem 𝓛 ((mem Own).own_at (as_builder w) b o)) (sem 𝓛 ((mem Typed).own_at w b o))
  unfolding part_of
  there = id⊢ 𝓤 _

pub typed_spec : {M : Type 1} → statement M
typed_spec 𝓤 𝓛 𝓜 𝓡 wired =
    let c = f.clauses 𝓛 𝓜.mem 𝓡.returns in let W = walk_of 𝓛 f.ended stayed c in let 𝓣 = tables 𝓤 𝓛.H 𝓜 𝓡 𝓡.env in
    proved 𝓛 f.ended stayed c 𝓜 𝓡 (Goes-spent_ref 𝓛 1 (0 ∷ []) tt (plain (λ _. Own)), tt)
    f.Key.name code.function (code.unfolded 𝓤 𝓛.H 𝓜 𝓡 wired)
    (λ κs. (mut_vals, tt)) (λ κs. (mut_Tells (named 0) κs.0 Own, tt)) (λ κs qs bounds a _ are.
    let κ = κs.0 in let q = qs.0 in let b = a.0.ref_ptr.0 in let o = a.0.ref_ptr.1 in let γ = a.0.ghost_name in let vs = mut_vals a.0 in
    let w : Typed.Denot = record { at = a.0.now.at; alloc = a.0.now.alloc; value = a.0.now.value } in
    let y : W.Ghost = ((κs, qs, bounds, a, (vs, tt)), tt) in
    qed 𝓛 (((‵ (flft κ q) ⊛ ‵ ftrue) ⊛ ‵ ((MutRef (named 0) κ Own).own_val a.0 vs) ⊛ ‵ ftrue) ∷ raw (emp 𝓤) ∷ []) ∵
    split ! $ split ! $ move ! (2 ∷ []) $ split ! $ keep ! (0 ∷ 2 ∷ []) $
    enter ! _ _ _ _ _ $ alloc_all ! (λ l. pass_all ! refl ((tt, tt), tt) $
    first ! $ blocks ! $
    sets ! (addr ! (through ! refl (stop !))) refl (tt, tt) $
    sets ! (of_opd ! (get ! refl)) refl (tt, tt) $
    sets_last ! (addr ! (through ! refl (stop !))) refl (tt, tt) $
    exec ! 𝓣.C 𝓣.Λ (env code.Mir.locals l) (after 1 (code.function).body) (at_ret _ (W.post y)) $
    sets ! (of_opd ! (get ! refl)) refl (tt, tt) $
    use2 𝓛 (later (some (retyped 𝓛 Own Typed as_builder b o (back 𝓛 b o) (named 0) κ q γ w (there 𝓛 b o w)))) (lends_retyped 𝓛 Own Typed as_builder b o (back 𝓛 b o) (named 0) κ q γ w (there 𝓛 b o w) vs) $ await ! tt $ pick ! (λ δ.
    returns ! (look_at ! 0 refl) $ free_all ! refl $ keep ! (0 ∷ []) $ split3 ! $
    suffices ! _ (ends_at 𝓛 f.ended stayed c y (vptr b o) (record { ref_ptr = (b, o); ghost_name = δ; now = w }) (tt, tt) (tt, tt)) $
    nothing ! $ nothing ! $ fjoin ! $ join ! $ nothing ! $ move ! (2 ∷ 0 ∷ []) $ join ! $ join ! $ frame ! $ says ! refl $ done !)))
