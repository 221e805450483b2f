-- Strings that are equal except for case, according to Unicode's simple case folding.
-- Strings are compared character by character.
use Rattle.std.specs.Prelude.{◌≡◌, ◌↔◌, ℕ, true, ◌==◌, List, [], ◌∷◌, ◌++◌, map, filter}
use Rattle.std.specs.Prelude.{Ok}
use Rattle.std.specs.List.{flat_map}
use Rattle.std.specs.Str.{chars}
use Rattle.be_pattern.specs.Match.{Part, matches}
use Rattle.be_pattern.specs.Parse.{pattern}
use Rattle.ucd_case.specs.CaseFolding.{fold_pairs, simple_fold}
use Rattle.be_query_text.specs.Encoded.{escaped_char}

-- The bytes are a pattern that matches exactly the strings that equal this one except for case.
abbrev pub MatchesAnyCase : List ℕ → List ℕ → Type 0
MatchesAnyCase bytes text = (parts : List Part) × (pattern (chars bytes) ≡ Ok parts)
    × ((cs : List ℕ) → (matches parts cs ≡ true) ↔ (map simple_fold cs
    ≡ map simple_fold (chars text)))

-- The other characters that fold to this one.
abbrev pub others : ℕ → List ℕ
others folded = map (λ p. p.1) (filter (λ p. p.0 == folded) fold_pairs)

-- The set of the characters if there are others, and otherwise the escaped character.
abbrev pub set_text : ℕ → List ℕ → List ℕ
set_text folded [] = escaped_char folded
set_text folded (c ∷ cs) = 91 ∷ folded ∷ c ∷ (cs ++ 93 ∷ [])

abbrev pub any_case_char : ℕ → List ℕ
any_case_char c = set_text (simple_fold c) (others (simple_fold c))

abbrev pub any_case : List ℕ → List ℕ
any_case = flat_map any_case_char
