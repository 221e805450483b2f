use Rattle.be_journal_text.proofs.ReportLemmas.{one_journal}
use Rattle.be_journal_text.proofs.laws.text_reports_one.Goals as goal

pub returns : goal.returns
returns c = λ text entries others are were reports reported. one_journal text entries others are were reports reported
