-- Patterns that consist of literal characters and `*`, as patterns over bytes.
use Rattle.std.specs.Prelude.{◌≡◌, ℕ, Bool, true, false, List, [], ◌∷◌, ◌++◌, map, ◌||◌, ◌==◌}
use Rattle.std.specs.Prelude.{encode_utf8, encode_utf8_all, string_bytes}
use Rattle.std.specs.List.{flat_map, list_all}
use Rattle.be_pattern.specs.Match.{Part, Run, One, Among, Only}
use Rattle.be_pattern.specs.Canonical.{canonical}
use Rattle.be_byte_pattern.specs.declared.runs.Runs.{Runs}

-- `*`, `?` or `[`
abbrev pub begins_wildcard : ℕ → Bool
begins_wildcard c = (c == 42) || (c == 63) || (c == 91)

-- `*` or a literal character
abbrev pub is_run_or_literal : Part → Bool
is_run_or_literal Run = true
is_run_or_literal One = false
is_run_or_literal (Among negated ms) = false
is_run_or_literal (Only c) = true

-- the pattern has no `?` and no set
abbrev pub has_runs_alone : List Part → Bool
has_runs_alone = list_all is_run_or_literal

-- a literal character as its UTF-8 bytes, each of which is a separate part
abbrev pub part_bytes : Part → List Part
part_bytes Run = Run ∷ []
part_bytes One = One ∷ []
part_bytes (Among negated ms) = Among negated ms ∷ []
part_bytes (Only c) = map Only (encode_utf8 c)

-- the parts with each literal character replaced by its bytes
abbrev pub byte_parts : List Part → List Part
byte_parts = flat_map part_bytes

-- each of the runs of literal bytes, preceded by a `*`
abbrev pub after_stars : List (List ℕ) → List Part
after_stars [] = []
after_stars (r ∷ rs) = Run ∷ (map Only r ++ after_stars rs)

-- A canonical text begins with this literal character, and the rest of it is the canonical text of
-- the remaining parts.
pub record BeginsWith (parts : List Part) (char : ℕ) (rest : List ℕ) : Type 0 where
  pub after : List Part
  pub first : parts ≡ Only char ∷ after
  pub text : rest ≡ encode_utf8_all (canonical after)

-- The rest of a canonical text once the bytes with the parts `read` have been read.
pub record Leaves (parts read : List Part) (rest : List ℕ) : Type 0 where
  pub after : List Part
  pub bytes : byte_parts parts ≡ read ++ byte_parts after
  pub alone : has_runs_alone parts ≡ has_runs_alone after
  pub text : rest ≡ encode_utf8_all (canonical after)

-- the parts that these runs consist of
abbrev pub parts_of_runs : Runs → List Part
parts_of_runs runs = map Only (string_bytes runs.front)
    ++ after_stars (map string_bytes runs.later.items)

-- The pattern has no `?` and no set, and these are its runs.
pub record IsOfRuns (parts : List Part) (runs : Runs) : Type 0 where
  pub alone : has_runs_alone parts ≡ true
  pub bytes : byte_parts parts ≡ parts_of_runs runs
