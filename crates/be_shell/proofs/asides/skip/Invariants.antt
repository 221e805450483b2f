use Rattle.std.proofs.Common.{◌≡◌, length}
use Rattle.be_shell.specs.Aside.{skip}
use Rattle.be_shell.proofs.asides.skip.Given as goal

abbrev pub invariant-loop-c : goal.invariant-loop-c
invariant-loop-c l = skip l.rest ≡ skip l.fn.line

abbrev pub decreases-loop-c : goal.decreases-loop-c
decreases-loop-c l = length l.rest
