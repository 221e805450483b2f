use Rattle.std.proofs.Common.{◌≡◌, ◌++◌, List, length, map}
use Rattle.std.specs.Prelude.{string_bytes, encode_utf8_all}
use denote.Text.{Utf8}
use denote.Shadow.{shadow}
use Rattle.be_pattern.specs.Match.{Part, Only}
use Rattle.be_pattern.specs.Canonical.{canonical}
use Rattle.be_byte_pattern.specs.Runs.{Leaves, after_stars}
use Rattle.be_byte_pattern.proofs.reading.read_runs.Given as goal

abbrev pub invariant-stars : goal.invariant-stars
invariant-stars l = record {
  utf8 : shadow (Utf8 l.rest);
  leaves : (ps : List Part) → l.text ≡ encode_utf8_all (canonical ps) →
      Leaves ps (map Only (string_bytes l.front) ++ after_stars (map string_bytes l.later.items)) l.rest;
}

abbrev pub decreases-stars : goal.decreases-stars
decreases-stars l = length l.rest
