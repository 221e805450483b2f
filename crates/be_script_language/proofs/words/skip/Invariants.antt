use Rattle.std.proofs.Common.{◌≡◌, length}
use Rattle.be_script_language.specs.Words.{skip}
use Rattle.be_script_language.proofs.words.skip.Given as goal

abbrev pub invariant-loop-c : goal.invariant-loop-c
invariant-loop-c l = skip l.rest ≡ skip l.fn.text

abbrev pub decreases-loop-c : goal.decreases-loop-c
decreases-loop-c l = length l.rest
