-- Which refusals come from the volume.
use Rattle.std.proofs.Common.{arith, ◌≡◌, ◌≤◌, List, [], ◌∷◌, ◌++◌, Bool, true, false, Ok, Err, fold, ap, subst}
use Rattle.std.specs.Prelude.{Result, if◌then◌else◌}
use Rattle.std.specs.Result.{result_map_both}
use Rattle.be_value.specs.Refusal.{refusal_number}
use Rattle.be_value.specs.declared.refusals.Refusal.{Refusal}
use Rattle.be_value.specs.declared.refusals.Refusal.TheVariants.{NoNode, NoAttr, NoSuchIndex, TooManyAttrs, IndexExists, TooManyIndices, NotIndexable}
use Rattle.be_volume.specs.Volume.{State, advance, step, steps}
use Rattle.be_volume.specs.declared.ops.Done.{Done}
use Rattle.be_volume.specs.declared.ops.Op.{Op}
use Rattle.be_volume.specs.declared.ops.Op.TheVariants.{New, Set, MkIndex, Drop, Unset, RmIndex}

-- The number of the refusal is from 2 to 8.
abbrev pub IsOfVolume : Refusal → Type 0
IsOfVolume e = (2 ≤ refusal_number e) × (refusal_number e ≤ 8)

refusal_of : {A : Type 0} → Refusal → Result A Refusal → Refusal
refusal_of d (Ok x) = d
refusal_of d (Err e) = e

one_refusal : {A : Type 0} (r e : Refusal) → ◌≡◌ {A = Result A Refusal} (Err r) (Err e) → r ≡ e
unfolding refusal_of
one_refusal r e h = ap (refusal_of r) h

-- Either the first test refuses, or something after it does.
first : {A : Type 0} (b : Bool) (r e : Refusal) (rest : Result A Refusal) → IsOfVolume r → (rest ≡ Err e → IsOfVolume e) → (if b then Err r else rest) ≡ Err e → IsOfVolume e
first true r e rest is after h = subst IsOfVolume (one_refusal r e h) is
first false r e rest is after h = after h

accepted : {A : Type 0} (x : A) (e : Refusal) → ◌≡◌ {A = Result A Refusal} (Ok x) (Err e) → IsOfVolume e
accepted x e h = absurd cc

step_refuses : (s : State) (op : Op) (e : Refusal) → step s op ≡ Err e → IsOfVolume e
step_refuses s New e h = accepted _ e h
step_refuses s (Drop node) e h = first _ NoNode e _ (omega arith, omega arith) (accepted _ e) h
step_refuses s (Set node name value) e h = first _ NoNode e _ (omega arith, omega arith) (first _ TooManyAttrs e _ (omega arith, omega arith) (accepted _ e)) h
step_refuses s (Unset node name) e h = first _ NoNode e _ (omega arith, omega arith) (first _ NoAttr e _ (omega arith, omega arith) (accepted _ e)) h
step_refuses s (MkIndex name kind) e h = first _ IndexExists e _ (omega arith, omega arith) (first _ TooManyIndices e _ (omega arith, omega arith) (first _ NotIndexable e _ (omega arith, omega arith) (accepted _ e))) h
step_refuses s (RmIndex name) e h = first _ NoSuchIndex e _ (omega arith, omega arith) (accepted _ e) h

advances : (r : Result (State × List Done) Refusal) (op : Op) → ((e : Refusal) → r ≡ Err e → IsOfVolume e) → (e : Refusal) → advance r op ≡ Err e → IsOfVolume e
advances (Err x) op is e h = is e h
advances (Ok reached) op is e h = by (step reached.0 op) (step_refuses reached.0 op) h
  where
    by : (r : Result (State × Done) Refusal) → ((e : Refusal) → r ≡ Err e → IsOfVolume e) → result_map_both {U = State × List Done} (λ answer. (answer.0, reached.1 ++ answer.1 ∷ [])) (λ f. f) r ≡ Err e → IsOfVolume e
    by (Ok x) of g = accepted {A = State × List Done} (x.0, reached.1 ++ x.1 ∷ []) e g
    by (Err x) of g = of e (ap Err (one_refusal x e g))

folds : (r : Result (State × List Done) Refusal) (ops : List Op) → ((e : Refusal) → r ≡ Err e → IsOfVolume e) → (e : Refusal) → fold advance r ops ≡ Err e → IsOfVolume e
folds r [] is e h = is e h
folds r (op ∷ ops) is e h = folds (advance r op) ops (advances r op is) e h

-- If the volume refuses a list, the number of the refusal is from 2 to 8.
pub steps_refuse : (s : State) (ops : List Op) (e : Refusal) → steps s ops ≡ Err e → IsOfVolume e
steps_refuse s ops e h = folds (Ok (s, [])) ops (λ f g. accepted _ f g) e h
