-- The index cover from which a query would be answered.
use Rattle.std.specs.Prelude.{ℕ, Bool, List}
use Rattle.std.specs.Result.{result_map_both}
use Rattle.std.specs.declared.result.Result.{Result}
use Rattle.be_plan.specs.Cover.{chosen}
use Rattle.be_plan.specs.Explain.{explanation}
use Rattle.be_query.specs.Grammar.{Formula}
use Rattle.be_value.specs.declared.refusals.Refusal.{Refusal}
use Rattle.be_volume.specs.Query.{has_index}
use Rattle.be_volume.specs.Volume.{State}

-- The text of the cover that is chosen if exactly the names for which `indexed` is true have an
-- index, or the reason why none is chosen.
abbrev pub explanation_where : (List ℕ → Bool) → Formula → Result (List ℕ) Refusal
explanation_where indexed f = result_map_both (explanation f) (λ e. e) (chosen indexed f)

-- The text of the cover that is chosen from a volume's indices, or the reason why none is chosen.
abbrev pub explanation_in : State → Formula → Result (List ℕ) Refusal
explanation_in volume f = explanation_where (has_index volume) f
