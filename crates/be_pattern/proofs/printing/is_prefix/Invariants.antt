use Rattle.std.proofs.Common.{◌≡◌, length}
use Rattle.be_pattern.specs.Match.{parts_of}
use Rattle.be_pattern.specs.Canonical.{is_prefix}
use Rattle.be_pattern.proofs.printing.is_prefix.Given as goal

abbrev pub invariant-tokens : goal.invariant-tokens
invariant-tokens l = is_prefix (parts_of l.rest) ≡ is_prefix (parts_of l.tokens)

abbrev pub decreases-tokens : goal.decreases-tokens
decreases-tokens l = length l.rest
