-- The strings that a pattern matches if it has no wildcard, or only one `*` at the end.
use Rattle.std.proofs.Common.{◌≡◌, ℕ, true, List, [], ◌∷◌, ◌++◌, ◌&&◌, refl, ap, ◌∙◌}
use Rattle.std.proofs.lemmas.Bool.{or_right, eq-eqb}
use Rattle.be_pattern.specs.Match.{Part, Run, One, Among, Only, matches, some_tail}
use Rattle.be_pattern.specs.Canonical.{is_plain, is_prefix, literal_prefix}

-- the empty tail is a tail
all_taken : (cs : List ℕ) → some_tail (matches []) cs ≡ true
all_taken [] = refl
all_taken (c ∷ cs) = or_right (matches [] (c ∷ cs)) (some_tail (matches []) cs) (all_taken cs)

pub front_matches : (parts : List Part) (beyond : List ℕ) → is_prefix parts ≡ true → (is_plain parts ≡ true → beyond ≡ []) → matches parts (literal_prefix parts ++ beyond) ≡ true
front_matches [] beyond h whole = ap (matches []) (whole refl)
front_matches (Run ∷ []) beyond h whole = all_taken beyond
front_matches (Run ∷ p ∷ ps) beyond h whole = cc
front_matches (One ∷ ps) beyond h whole = cc
front_matches (Among n ms ∷ ps) beyond h whole = cc
front_matches (Only c ∷ ps) beyond h whole = ap (λ b. b && matches ps (literal_prefix ps ++ beyond)) (eq-eqb c c refl) ∙ front_matches ps beyond h whole
