use Rattle.std.proofs.Common.{◌∙◌, ap, length, sym}
use Rattle.std.proofs.lemmas.List.{length-map}
use Rattle.be_journal.proofs.ViewLemmas.{counted}
use Rattle.be_journal.specs.Blocks.{steps_in}
use Rattle.be_journal.specs.declared.entries.Entry.{Entry}
use Rattle.be_journal.proofs.views.EntryView.len.Goals as goal

pub returns : goal.returns
returns c =
    let steps = steps_in c.self.inside.count c.self.inside.bytes.now in
    sym (length-map steps (λ s. s.0) ∙ counted c.self.inside.count c.self.inside.bytes.now c.self.invariant) ∙ ap (λ (e : Entry). length e.ops) c.self.view_is
