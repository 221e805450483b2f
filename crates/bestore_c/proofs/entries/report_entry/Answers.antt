use Rattle.std.proofs.Common.{◌∙◌, ap, subst}
use Rattle.std.specs.Prelude.{Option, slice_get}
use Rattle.be_journal.specs.declared.entries.Entry.{Entry}
use Rattle.be_table.specs.Rule.{entries}
use Rattle.bestore_c.specs.Calls.{IsEntryPutOut}
use Rattle.bestore_c.proofs.FirstFrom.{first_from}
use Rattle.bestore_c.proofs.entries.report_entry.Goals as goal

pub returns-clause-reported : goal.returns-clause-reported
returns-clause-reported c =
    subst (λ (e : Option Entry). IsEntryPutOut e c.put_entry.new.by c.put_entry.new.counts c.args.operations.now c.put_entry.new.operations c.args.bytes.now c.put_entry.new.bytes)
    (c.first.ensures.value ∙ (ap (λ l. slice_get l 0) (c.deref.ensures.value ∙ c.in_ok-list.ensures.list) ∙ first_from (entries c.journal_from.new.self.knows.seen) c.args.from))
    c.in_ok-put_entry.ensures.reported
