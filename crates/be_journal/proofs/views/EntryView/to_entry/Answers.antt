use Rattle.std.proofs.Common.{◌∙◌}
use Rattle.be_journal.proofs.ViewLemmas.{same_entry}
use Rattle.be_journal.proofs.views.EntryView.to_entry.Goals as goal

pub returns : goal.returns
returns c =
    rw (c.from_vec.ensures, c.from_vec-2.ensures)
    (same_entry c.self.inside.by c.self.inside.count c.self.inside.bytes.now c.in-Some.ops.items c.in-Some.dones.items c.in-Some._rest.now (rw c.in-Some.is at c.in_ok-read.ensures) ∙ c.self.view_is)
