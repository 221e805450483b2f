use Rattle.std.proofs.Common.{◌≡◌, ◌++◌, List, length, map}
use Rattle.be_pattern.specs.Match.{Part, Only, matches, some_tail}
use Rattle.be_byte_pattern.proofs.runs.after_first.Given as goal

abbrev pub invariant-places : goal.invariant-places
invariant-places l = (ps : List Part) → some_tail (matches (map Only l.run ++ ps)) l.rest ≡ some_tail (matches (map Only l.run ++ ps)) l.bytes

abbrev pub decreases-places : goal.decreases-places
decreases-places l = length l.rest
