-- As many outcomes as operations.
use Rattle.std.proofs.Common.{◌≡◌, ◌+◌, List, [], ◌∷◌, ◌++◌, fold, length, length-append, refl, ap, arith}
use Rattle.std.specs.Result.{result_map_both}
use Rattle.std.specs.declared.result.Result.{Result}
use Rattle.std.specs.declared.result.Result.TheVariants.{Ok, Err}
use Rattle.be_value.specs.declared.refusals.Refusal.{Refusal}
use Rattle.be_volume.specs.Volume.{State, step, steps, advance}
use Rattle.be_volume.specs.declared.ops.Done.{Done}
use Rattle.be_volume.specs.declared.ops.Op.{Op}

abbrev Reached : Type 0
Reached = Result (State × List Done) Refusal

same_inside : (p q : State × List Done) (r : Reached) → r ≡ Ok p → r ≡ Ok q → p ≡ q
same_inside p q r h g = cc

-- an error stays
refused_stays : (e : Refusal) (ops : List Op) → fold advance (Err e) ops ≡ Err e
refused_stays e [] = refl
refused_stays e (op ∷ ops) = refused_stays e ops

never_both : (e : Refusal) (p : State × List Done) (r : Result (State × List Done) Refusal) → r ≡ Err e → r ≡ Ok p → ⊥
never_both e p r h g = cc

answers_from : (ops : List Op) (s t : State) (before dones : List Done) → fold advance (Ok (s, before)) ops ≡ Ok (t, dones) → length dones ≡ length before + length ops
answers_from [] s t before dones h = omega (arith, ap (λ (p : State × List Done). length p.1) (same_inside (s, before) (t, dones) (fold advance (Ok (s, before)) []) refl h))
answers_from (op ∷ ops) s t before dones h = by (step s op) h (λ a g. answers_from ops a.0 t (before ++ a.1 ∷ []) dones g)
  where
    by : (r : Result (State × Done) Refusal) → fold advance (result_map_both (λ answer. (answer.0, before ++ answer.1 ∷ [])) (λ e. e) r) ops ≡ Ok (t, dones) →
        ((a : State × Done) → fold advance (Ok (a.0, before ++ a.1 ∷ [])) ops ≡ Ok (t, dones) → length dones ≡ length (before ++ a.1 ∷ []) + length ops) →
        length dones ≡ length before + length (op ∷ ops)
    by (Ok a) g rest = omega (arith, rest a g, length-append before (a.1 ∷ []))
    by (Err e) g rest = absurd (never_both e (t, dones) (fold advance (Err e) ops) (refused_stays e ops) g)

-- accepted operations have an outcome each
pub length-outcomes : (s t : State) (ops : List Op) (dones : List Done) → steps s ops ≡ Ok (t, dones) → length dones ≡ length ops
length-outcomes s t ops dones h = omega (arith, answers_from ops s t [] dones h)
