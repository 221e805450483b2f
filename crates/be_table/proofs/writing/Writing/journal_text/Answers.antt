use Rattle.std.proofs.Common.{◌∙◌, Ok, ap, string_bytes, subst}
use Rattle.be_journal.specs.Text.{lines_from}
use Rattle.be_table.specs.Place.{Work}
use Rattle.be_table.specs.Rule.{entries}
use Rattle.be_value.specs.Refusal.{Answers}
use Rattle.be_table.proofs.writing.Writing.journal_text.Goals as goal

pub returns : goal.returns
returns c =
    subst (λ es. Answers string_bytes c.text.result (Ok (lines_from 1 es))) (c.self.invariant.journal ∙ ap (λ (w : Work). entries w.knows.seen) c.self.view_is) c.text.ensures
