use Rattle.std.proofs.lemmas.Result.{IfOk-weaker}
use Rattle.be_journal_text.specs.Finding as spec
use Rattle.be_journal_text.proofs.CheckLemmas.{finding_reported}
use Rattle.be_journal_text.proofs.checks.check.Goals as goal

pub returns-in-Some : goal.returns-in-Some
returns-in-Some c =
    let reported = rw c.in-Some.is at c.in_ok-entries.ensures.reads in
    IfOk-weaker c.finding_of.result (λ found. spec.IsFound c.in-Some.entries.items (spec.found_of found))
    (λ found. spec.IsFinding c.args.text.now (spec.found_of found))
    (λ found is. finding_reported c.args.text.now c.in-Some.entries.items reported.0 reported.1 (spec.found_of found) is)
    (rw c.deref.ensures.value at c.finding_of.ensures)
