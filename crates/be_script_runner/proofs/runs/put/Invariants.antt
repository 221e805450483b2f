use Rattle.std.proofs.Common.{◌≡◌, ◌++◌, length}
use Rattle.be_script_runner.specs.Run.{Wrote}
use Rattle.be_script_runner.proofs.runs.put.Given as goal

-- the bytes written so far, followed by the rest, are all the bytes
abbrev pub invariant-loop-rest : goal.invariant-loop-rest
invariant-loop-rest g l = Wrote (g.W.Write.contents l.fn.writer) (g.W.Write.contents l.writer) (λ out. l.fn.bytes ≡ out ++ l.rest)

abbrev pub decreases-loop-rest : goal.decreases-loop-rest
decreases-loop-rest g l = length l.rest
