-- What holds for the cover that is chosen for a query.
use Rattle.std.proofs.Common.{◌≡◌, ◌⊎◌, ℕ, Bool, List, Result, Ok, Err, IfOk, IfErr, inl, inr, ap, sym, ◌∙◌}
use Rattle.std.specs.Result.{result_map_both}
use Rattle.be_plan.specs.Cover.{chosen}
use Rattle.be_plan.specs.Explain.{explanation}
use Rattle.be_plan.specs.declared.plans.Cover.{Cover}
use Rattle.be_query.specs.Grammar.{Formula}
use Rattle.be_session.specs.Explained.{explanation_where}
use Rattle.be_value.specs.Refusal.{Answers}
use Rattle.be_value.specs.declared.refusals.Refusal.{Refusal}
use Rattle.be_value.specs.declared.refusals.Refusal.TheVariants.{OutOfMemory}

pub said_of : {X : Type 0} (view : X → List ℕ) (indexed : List ℕ → Bool) (f : Formula) (cover : Cover) (r : Result X Refusal) → chosen indexed f ≡ Ok cover
    → IfOk r (λ t. view t ≡ explanation f cover) → IfErr r (λ e. e ≡ OutOfMemory) → Answers view r (explanation_where indexed f)
said_of view indexed f cover (Ok t) is text memory = ap (result_map_both (explanation f) (λ e. e)) is ∙ ap Ok (sym text)
said_of view indexed f cover (Err e) is text memory = inl memory

pub none_said : (indexed : List ℕ → Bool) (f : Formula) (e : Refusal) → (e ≡ OutOfMemory) ⊎ (chosen indexed f ≡ Err e)
    → (e ≡ OutOfMemory) ⊎ (explanation_where indexed f ≡ Err e)
none_said indexed f e known =
    elim known [
      | inl none ↦ inl none
      | inr reported ↦ inr (ap (result_map_both (explanation f) (λ e. e)) reported)
    ]
