use Rattle.std.proofs.Common.{◌≡◌, length, map}
use Rattle.std.specs.Prelude.{string_bytes}
use Rattle.be_pattern.specs.Match.{matches}
use Rattle.be_byte_pattern.specs.Runs.{after_stars}
use Rattle.be_byte_pattern.proofs.runs.follow.Given as goal

abbrev pub invariant-runs : goal.invariant-runs
invariant-runs l = matches (after_stars (map string_bytes l.left)) l.rest ≡ matches (after_stars (map string_bytes l.runs)) l.bytes

abbrev pub decreases-runs : goal.decreases-runs
decreases-runs l = length l.left
