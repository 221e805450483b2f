-- An `Owned` with a value owns what a box of the value owns. Assumes `Logic`.
use Rattle.std.proofs.Common.{◌≡◌, refl}
use mathlib.Core.List.{List, [], ◌∷◌}
use mathlib.Core.Bool.{true}
use Rattle.std.proofs.lemmas.Bool.{false≢true}
use seplogic.Ra.Ura.{Ura}
use mir.Val.{Val}
use base.Logic.{ent, ex, guard, id⊢}
use types.Logic.{Logic, sem}
use types.Kit.{‵, ◌$◌, ◌∵◌, !, qed, show, check, by}
use denote.RattleType.{RattleType}
use Rattle.std.specs.Prelude.{Option, Some, None, is_some}
use Rattle.std.proofs.BoxSteps.Form.{Bx, B, D, X, R, P}
use Rattle.bestore_c.specs.contracts.owned.Owned as owned

module _ (E : Bx) where
  abbrev pub Own : RattleType
  Own = owned.the_row (R E) (P E) E.al.g

  abbrev pub boxed : Own.Denot → X E → D E
  boxed h x = record { ptr = h.at; alloc = h.alloc; value = x }

  pub opened : {M : Type 1} {𝓤 : Ura M} (𝓛 : Logic 𝓤) (h : Own.Denot) (vs : List Val) → is_some h.value ≡ true
      → ent 𝓤 (sem 𝓛 (Own.own_val h vs)) (ex 𝓤 (λ (x : X E). guard 𝓤 (h.value ≡ Some x) (sem 𝓛 ((B E).own_val (boxed h x) vs))))
  opened {𝓤 = 𝓤} 𝓛 h vs full = opened_at h.value full
    where
      opened_at : (o : Option (X E)) → is_some o ≡ true
          → ent 𝓤 (sem 𝓛 (Own.own_val (record h { value = o }) vs)) (ex 𝓤 (λ (x : X E). guard 𝓤 (o ≡ Some x) (sem 𝓛 ((B E).own_val (boxed h x) vs))))
      opened_at None full = absurd (false≢true full)
      opened_at (Some x) full = qed 𝓛 (‵ (Own.own_val (record h { value = Some x }) vs) ∷ []) ∵
          show ! (λ (y : X E). guard 𝓤 (Some x ≡ Some y) (sem 𝓛 ((B E).own_val (boxed h y) vs))) x $ check ! refl $ by ! (id⊢ 𝓤 _)
