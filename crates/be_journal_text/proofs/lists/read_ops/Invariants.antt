use Rattle.std.proofs.Common.{length}
use Rattle.be_journal.specs.Text.{op_text}
use Rattle.be_journal_text.specs.History.{CanBeOp}
use Rattle.be_journal_text.proofs.ReadLemmas.{IsLeft}
use Rattle.be_journal_text.proofs.lists.read_ops.Given as goal

abbrev pub invariant-loop-rest : goal.invariant-loop-rest
invariant-loop-rest l = IsLeft CanBeOp op_text l.fn.text l.ops.items l.rest

abbrev pub decreases-loop-rest : goal.decreases-loop-rest
decreases-loop-rest l = length l.rest
