-- How bytes are shown on a screen: control characters as codes, and everything else unchanged.
use Rattle.std.specs.Prelude.{◌≡◌, ℕ, ◌+◌, ◌/◌, ◌%◌, Bool, List, [], ◌∷◌, ◌++◌, nat_eq, nat_lt}
use Rattle.std.specs.Prelude.{nat_le, not, ◌&&◌, ◌||◌, if◌then◌else◌}

-- The characters U+0000 to U+001F, except LF, which ends a line of a reply, and the character
-- U+007F.
abbrev pub is_control : ℕ → Bool
is_control c = (nat_lt c 32 && not (nat_eq c 10)) || nat_eq c 127

-- These two bytes are one of the characters U+0080 to U+009F, whose code is the second byte.
abbrev pub is_wide_control : ℕ → ℕ → Bool
is_wide_control b c = nat_eq b 194 && (nat_le 128 c && nat_lt c 160)

abbrev pub hex_digit : ℕ → ℕ
hex_digit n = if nat_lt n 10 then 48 + n else 87 + n

-- A code, written as `\x` and two hexadecimal digits.
abbrev pub mark : ℕ → List ℕ
mark c = 92 ∷ 120 ∷ hex_digit (c / 16) ∷ hex_digit (c % 16) ∷ []

-- How one byte is shown.
abbrev pub form : ℕ → List ℕ
form c = if is_control c then mark c else c ∷ []

-- How a whole text is shown.
abbrev pub shown : List ℕ → List ℕ
shown [] = []
shown (b ∷ []) = form b
shown (b ∷ c ∷ bytes) = if is_wide_control b c then mark c ++ shown bytes else form b
    ++ shown (c ∷ bytes)

-- The first of these bytes is shown unchanged.
abbrev pub KeepsFirst : List ℕ → Type 0
KeepsFirst bytes = (c : ℕ) (more : List ℕ) → bytes ≡ c ∷ more → shown bytes ≡ c ∷ shown more
