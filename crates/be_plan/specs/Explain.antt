-- Explaining a cover.
use Rattle.std.specs.Prelude.{ℕ, Bool, List, [], ◌∷◌, ◌++◌, codes, flat_map, nat_lt, slice_get}
use Rattle.std.specs.Fmt.{decimal}
use Rattle.std.specs.List.{list_all}
use Rattle.std.specs.Option.{option_map_or}
use Rattle.be_query.specs.Grammar.{Formula, comparisons}
use Rattle.be_query.specs.Printing.{leaf_text}
use Rattle.be_plan.specs.Cover.{leaves}
use Rattle.be_plan.specs.declared.plans.Cover.{Cover}

-- Each pick is the position of a comparison.
abbrev pub are_places : Formula → List ℕ → Bool
are_places f picks = list_all (λ pick. nat_lt pick (comparisons f)) picks

-- The canonical text of the comparison at a position.
abbrev pub text_at : Formula → ℕ → List ℕ
text_at f place = option_map_or (λ c. leaf_text c.name c.op c.literal) (slice_get (leaves f) place)
    []

-- The canonical texts of the picked comparisons, joined by ` || `.
abbrev pub picked_text : Formula → List ℕ → List ℕ
picked_text f [] = []
picked_text f (pick ∷ picks) = text_at f pick ++ flat_map (λ p. codes " || " ++ text_at f p) picks

-- The picked comparisons and the score.
abbrev pub explanation : Formula → Cover → List ℕ
explanation f cover = picked_text f cover.picks ++ codes " score " ++ decimal cover.score
