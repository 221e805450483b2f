use Rattle.std.proofs.Common.{length}
use Rattle.be_journal.specs.Text.{done_text}
use Rattle.be_entry_bytes.specs.Encoding.{CanBeDone}
use Rattle.be_journal_text.proofs.ReadLemmas.{IsLeft}
use Rattle.be_journal_text.proofs.lists.read_outcomes.Given as goal

abbrev pub invariant-loop-rest : goal.invariant-loop-rest
invariant-loop-rest l = IsLeft CanBeDone done_text l.fn.text l.dones.items l.rest

abbrev pub decreases-loop-rest : goal.decreases-loop-rest
decreases-loop-rest l = length l.rest
