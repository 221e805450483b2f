-- What checking a text finds, given what checking its entries finds.
use Rattle.std.proofs.Common.{ℕ, List}
use Rattle.std.proofs.lemmas.List.Elements.{All-weaker}
use Rattle.be_journal.specs.Journal.{IsEntry}
use Rattle.be_journal.specs.declared.entries.Entry.{Entry}
use Rattle.be_journal_text.specs.Finding.{AreChecked, Found, no_journal, right, wrong, IsFinding, IsFound, TextReports}
use Rattle.be_journal_text.specs.History.{CanBeJournal, CanBeEntry}

pub written_checked : (entries : List Entry) → CanBeJournal entries → AreChecked entries
written_checked entries are = (All-weaker CanBeEntry IsEntry (λ entry w. w.is) entries are.0, are.1)

pub finding_reported : (text : List ℕ) (entries : List Entry) → CanBeJournal entries → TextReports text entries → (found : Found) → IsFound entries found →
    IsFinding text found
finding_reported text entries are reports no_journal is = absurd is
finding_reported text entries are reports (right count) is = (entries, are, reports, is)
finding_reported text entries are reports (wrong count line) is = (entries, are, reports, is)
