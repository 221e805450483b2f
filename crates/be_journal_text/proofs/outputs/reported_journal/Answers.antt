use Rattle.std.proofs.Common.{◌≡◌, true, Some, None, subst}
use Rattle.std.specs.Option.{option_map}
use Rattle.be_journal_text.specs.Finding.{IsFromLastJ}
use Rattle.be_journal_text.proofs.ReportLemmas.{from_last_j, none_reads, none_whole, one_from_last_j, some_reads, some_whole}
use Rattle.be_journal_text.proofs.outputs.reported_journal.Goals as goal

pub returns-in-Some-clause-reads : goal.returns-in-Some-clause-reads
returns-in-Some-clause-reads c =
    let last : from_last_j true c.args.text.now ≡ Some c.in-Some.result.now =
    one_from_last_j c.args.text.now (Some c.in-Some.result.now)
    (subst (λ o. IsFromLastJ c.args.text.now (option_map (λ t. t.now) o)) c.in-Some.is c.from_last_j.ensures) in
    some_reads c.read_result.result (λ v. v.items) c.args.text.now c.in-Some.result.now last c.read_result.ensures.reads

pub returns-in-Some-clause-whole : goal.returns-in-Some-clause-whole
returns-in-Some-clause-whole c =
    let last : from_last_j true c.args.text.now ≡ Some c.in-Some.result.now =
    one_from_last_j c.args.text.now (Some c.in-Some.result.now)
    (subst (λ o. IsFromLastJ c.args.text.now (option_map (λ t. t.now) o)) c.in-Some.is c.from_last_j.ensures) in
    some_whole c.read_result.result (λ v. v.items) c.args.text.now c.in-Some.result.now last c.read_result.ensures.whole

pub returns-in-None-clause-reads : goal.returns-in-None-clause-reads
returns-in-None-clause-reads c = none_reads c.read_journal.result (λ v. v.items) c.args.text.now c.read_journal.ensures.reads

pub returns-in-None-clause-whole : goal.returns-in-None-clause-whole
returns-in-None-clause-whole c =
    let none : from_last_j true c.args.text.now ≡ None =
    one_from_last_j c.args.text.now None (subst (λ o. IsFromLastJ c.args.text.now (option_map (λ t. t.now) o)) c.in-None.is c.from_last_j.ensures) in
    none_whole c.read_journal.result (λ v. v.items) c.args.text.now none c.read_journal.ensures.whole
