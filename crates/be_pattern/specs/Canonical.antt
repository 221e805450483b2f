-- A pattern's canonical text, and its literal prefix. Here a text is a list of characters.
use Rattle.std.specs.Prelude.{ℕ, Bool, true, false, List, [], ◌∷◌, ◌++◌, map, codes, ◌&&◌, ◌||◌}
use Rattle.std.specs.Prelude.{◌==◌, if◌then◌else◌}
use Rattle.std.specs.List.{flat_map, list_all}
use Rattle.be_pattern.specs.Parse.{are_members}
use Rattle.be_pattern.specs.Match.{Part, Run, One, Among, Only}

abbrev pub is_literal : Part → Bool
is_literal Run = false
is_literal One = false
is_literal (Among negated ms) = false
is_literal (Only c) = true

-- the tokens have no wildcard
abbrev pub is_plain : List Part → Bool
is_plain = list_all is_literal

-- the tokens have no wildcard, or only one `*` at the end
abbrev pub is_prefix : List Part → Bool
is_prefix [] = true
is_prefix (Run ∷ []) = true
is_prefix (Run ∷ p ∷ ps) = false
is_prefix (One ∷ ps) = false
is_prefix (Among negated ms ∷ ps) = false
is_prefix (Only c ∷ ps) = is_prefix ps

-- the literal characters before the first wildcard
abbrev pub literal_prefix : List Part → List ℕ
literal_prefix [] = []
literal_prefix (Run ∷ ps) = []
literal_prefix (One ∷ ps) = []
literal_prefix (Among negated ms ∷ ps) = []
literal_prefix (Only c ∷ ps) = c ∷ literal_prefix ps

-- a character, with a backslash before it if the flag is set
abbrev pub marked : Bool → ℕ → List ℕ
marked backslash c = if backslash then 92 ∷ c ∷ [] else c ∷ []

-- `"`, `\`, `*`, `?` and `[` need a backslash outside sets
abbrev pub is_special : ℕ → Bool
is_special c = (c == 34) || (c == 92) || (c == 42) || (c == 63) || (c == 91)

-- `"`, `\`, `[`, `]`, `^` and `-` need a backslash in a set
abbrev pub is_special_in_set : ℕ → Bool
is_special_in_set c = (c == 34) || (c == 92) || (c == 91) || (c == 93) || (c == 94) || (c == 45)

abbrev pub literal_char : ℕ → List ℕ
literal_char c = marked (is_special c) c

abbrev pub member_char : ℕ → List ℕ
member_char c = marked (is_special_in_set c) c

abbrev pub member : ℕ × ℕ → List ℕ
member m = if m.0 == m.1 then member_char m.0 else member_char m.0 ++ 45 ∷ member_char m.1

-- `[^` if the set is negated, otherwise `[`
abbrev pub class_opening : Bool → List ℕ
class_opening true = 91 ∷ 94 ∷ []
class_opening false = 91 ∷ []

abbrev pub part_text : Part → List ℕ
part_text Run = 42 ∷ []
part_text One = 63 ∷ []
part_text (Among negated ms) = class_opening negated ++ (flat_map member ms ++ 93 ∷ [])
part_text (Only c) = literal_char c

abbrev pub canonical : List Part → List ℕ
canonical = flat_map part_text

-- `*`, if the flag is set
abbrev pub run_if : Bool → List Part
run_if is_there = if is_there then Run ∷ [] else []

-- a literal text, with a `*` before it and a `*` after it if the flags are set
abbrev pub around : Bool → List ℕ → Bool → List Part
around before cs beyond = run_if before ++ (map Only cs ++ run_if beyond)

-- a set has at least one member, and no descending range
abbrev pub is_formed : Part → Bool
is_formed Run = true
is_formed One = true
is_formed (Among negated ms) = are_members ms
is_formed (Only c) = true

abbrev pub are_formed : List Part → Bool
are_formed = list_all is_formed

-- the characters of the notation
abbrev pub notation : List ℕ
notation = codes "\\*?[]^-"

-- each character in the token passes the test
abbrev pub has_only : (ℕ → Bool) → Part → Bool
has_only test Run = true
has_only test One = true
has_only test (Among negated ms) = list_all (λ m. test m.0 && test m.1) ms
has_only test (Only c) = test c
