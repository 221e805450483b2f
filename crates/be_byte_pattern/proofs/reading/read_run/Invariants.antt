use Rattle.std.proofs.Common.{◌≡◌, ◌≤◌, List, length, map}
use Rattle.std.specs.Prelude.{string_bytes, encode_utf8_all}
use denote.Text.{Utf8}
use denote.Shadow.{shadow}
use Rattle.be_pattern.specs.Match.{Part, Only}
use Rattle.be_pattern.specs.Canonical.{canonical}
use Rattle.be_byte_pattern.specs.Runs.{Leaves}
use Rattle.be_byte_pattern.proofs.reading.read_run.Given as goal

abbrev pub invariant-literals : goal.invariant-literals
invariant-literals l = record {
  utf8 : shadow (Utf8 l.rest);
  shorter : length l.rest ≤ length l.text;
  leaves : (ps : List Part) → l.text ≡ encode_utf8_all (canonical ps) → Leaves ps (map Only (string_bytes l.run)) l.rest;
}

abbrev pub decreases-literals : goal.decreases-literals
decreases-literals l = length l.rest
