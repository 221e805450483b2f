use Rattle.std.proofs.Common.{ap, ◌∙◌, subst}
use Rattle.std.specs.Option.{option_map}
use Rattle.be_journal.specs.Journal.{IsLegalFrom}
use Rattle.be_table.specs.Setting.{Setting}
use Rattle.be_table.specs.Versions.{CanEncodeEach}
use Rattle.be_script_runner.specs.Served.{known}
use Rattle.be_script_runner.specs.Store.{start}
use Rattle.be_script_runner.specs.Strict.{line_refused}
use Rattle.be_script_runner.proofs.RunLemmas.{none_answered, passed_up}
use Rattle.be_script_runner.proofs.StrictLemmas.{strict_replies, strict_run}
use Rattle.be_script_runner.proofs.JournalRunLemmas.{first_lines_reported, no_line_reported}
use Rattle.be_script_runner.proofs.strict_runs.run_on_new.Goals as goal

pub returns-in_default-clause-err : goal.returns-in_default-clause-err
returns-in_default-clause-err g c = none_answered (start c.args.limits.commits) c.args.script.now (g.W.Write.contents c.args.writer.now)

pub returns-in_default-clause-whole : goal.returns-in_default-clause-whole
returns-in_default-clause-whole g c is = no_line_reported c.args.limits c.args.script.now (g.W.Write.contents c.args.writer.now)

pub returns-in_err-journal-clause-whole : goal.returns-in_err-journal-clause-whole
returns-in_err-journal-clause-whole g c =
    let old = g.W.Write.contents c.args.writer.now in
    let new = g.W.Write.contents c.run_lines.new.writer in
    let first = known c.new-server.result.knows in
    passed_up c.from_residual-in_err-journal.result c.in_err-journal.field-0.0 _ c.from_residual-in_err-journal.ensures.1 (λ is.
    first_lines_reported c.args.limits c.args.script.now first old new (ap (λ k. known k) c.new-server.ensures.1 ∙ c.in-Ok.ensures.opened.1)
    (strict_replies first (known c.run_lines.new.server.knows) c.args.script.now (option_map line_refused c.in_ok-refused.refused) old new c.in_ok-refused.ensures.ok))

pub returns-clause-ran : goal.returns-clause-ran
returns-clause-ran g c =
    strict_run c.args.limits c.args.script.now (option_map line_refused c.in_ok-refused.refused) c.new-server.result.knows c.run_lines.new.server.knows c.into_pass-pass.result.knows
    c.in_ok-journal.journal.entries (g.W.Write.contents c.args.writer.now) (g.W.Write.contents c.run_lines.new.writer)
    (ap (λ k. known k) c.new-server.ensures.1 ∙ c.in-Ok.ensures.opened.1) c.into_pass-pass.ensures.1 c.in_ok-journal.ensures.all
    (subst (λ (s : Setting). CanEncodeEach s.pages s.volume c.in_ok-journal.journal.entries) c.in-Ok.ensures.begins c.in_ok-journal.ensures.volumes) c.in_ok-refused.ensures.ok

pub returns-clause-legal : goal.returns-clause-legal
returns-clause-legal g c = subst (λ (s : Setting). IsLegalFrom s.volume c.in_ok-journal.journal.entries) c.in-Ok.ensures.begins c.in_ok-journal.ensures.legal
