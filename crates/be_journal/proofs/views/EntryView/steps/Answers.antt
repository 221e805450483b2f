use Rattle.be_journal.proofs.ViewLemmas.{counted}
use Rattle.be_journal.proofs.views.EntryView.steps.Goals as goal

pub invariant_of-result : goal.invariant_of-result
invariant_of-result c = counted c.self.inside.count c.self.inside.bytes.now c.self.invariant
