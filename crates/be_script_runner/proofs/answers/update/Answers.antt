use Rattle.std.proofs.Common.{◌≡◌, Ok, ap, ◌∙◌, sym, inl}
use Rattle.be_query.specs.Grammar.{Formula}
use Rattle.be_script_runner.proofs.ScanLemmas.{scan_rises}
use Rattle.be_volume.specs.Query.{scan}
use Rattle.be_script_runner.specs.Output.{updating}
use Rattle.be_script_language.specs.Reply.{updates}
use Rattle.be_script_runner.specs.Store.{viewed}
use Rattle.be_script_runner.specs.View.{watched}
use Rattle.be_script_runner.proofs.answers.update.Goals as goal

pub update-requires : goal.update-requires
update-requires g c =
    let volume = viewed (g.S.Server.shows c.query-2.new.self) in
    scan_rises volume c.args.live.now.query c.in-Ok.nodes.items (ap (λ (f : Formula). scan volume f) (sym c.query.ensures) ∙ c.in-Ok.ensures.answers)

pub returns-in-Ok-update-clause-replies : goal.returns-in-Ok-update-clause-replies
returns-in-Ok-update-clause-replies g c = λ batch.
    let store = g.S.Server.shows c.query-2.new.self in
    let old = c.args.live.now in
    let answer : scan (viewed store) old.query ≡ Ok c.in-Ok.nodes.items = ap (λ (f : Formula). scan (viewed store) f) (sym c.query.ensures) ∙ c.in-Ok.ensures.answers in
    let reported = c.in-Ok-update.ensures.ok in
    inl (ap (updating (watched store batch old) old) answer
    ∙ (λ i. (updates (sym reported.1 i) (sym reported.2 i), watched store batch (sym reported.0 i))))
