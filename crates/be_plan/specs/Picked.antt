-- The positions in picks.
use Rattle.std.specs.Prelude.{ℕ, List, [], ◌∷◌}
use Rattle.be_plan.specs.declared.plans.Places.{Places}
use Rattle.be_plan.specs.declared.plans.Places.TheVariants.{One, Many}

abbrev pub places_of : Places → List ℕ
places_of (One place) = place ∷ []
places_of (Many places) = places.items
