use Rattle.be_shell.specs.Bytes.{HasTaken}
use Rattle.be_shell.proofs.ends.hear_line.Given as goal

abbrev pub invariant-loop-bytes : goal.invariant-loop-bytes
invariant-loop-bytes g l = HasTaken (g.R.Read.remaining l.fn.reader) (g.R.Read.remaining l.reader) l.kept.items
