use Rattle.std.proofs.Common.{refl, sym, ap, ◌∙◌, subst}
use Rattle.be_journal.specs.Journal.{IsLegalFrom}
use Rattle.be_table.specs.Place.{Opened}
use Rattle.be_table.specs.Setting.{Setting}
use Rattle.be_table.specs.Versions.{CanEncodeEach}
use Rattle.be_store.specs.Passes.{IsPassOf}
use Rattle.be_script_runner.specs.Served.{known}
use Rattle.be_script_runner.specs.Store.{Store}
use Rattle.be_script_runner.proofs.RaceLemmas.{on_both}
use Rattle.be_script_runner.proofs.RunLemmas.{always_err, each_err, on_err, on_memory, passed_up}
use Rattle.be_script_runner.proofs.JournalRunLemmas.{all_lines_reported, first_lines_reported, no_line_reported, nothing_reported, all_replies_reported, reported_in_part, reported_replies, reported_run}
use Rattle.be_script_runner.proofs.journal_runs.run_on_new.Goals as goal

pub close_alone-requires-clause-pass : goal.close_alone-requires-clause-pass
close_alone-requires-clause-pass g c =
    subst (λ (store : Opened). IsPassOf store c.into_pass-pass.result) (ap (λ s. s.0) c.run_lines.ensures.stays ∙ c.new-server.ensures.0) c.into_pass-pass.ensures.0

pub close_alone-requires-clause-one : goal.close_alone-requires-clause-one
close_alone-requires-clause-one g c =
    ap (λ l. l.passes) (sym c.in-Ok.ensures.opened.0.0.2) ∙ ap (λ (s : Store). s.passes) c.in-Ok.ensures.opened.1

pub put_result-requires : goal.put_result-requires
put_result-requires g c = subst (λ (s : Setting). IsLegalFrom s.volume c.in_ok-journal.journal.entries) c.in-Ok.ensures.begins c.in_ok-journal.ensures.legal

pub returns-clause-reported : goal.returns-clause-reported
returns-clause-reported g c =
    let holds = g.W.Write.contents in
    on_both c.put_result.result c.put_result.ensures.ok c.put_result.ensures.ok (λ legal is _. (
      is.0,
      reported_run c.args.limits c.args.script.now c.new-server.result.knows c.run_lines.new.server.knows c.into_pass-pass.result.knows c.in_ok-journal.journal.entries
          (holds c.args.writer.now) (holds c.run_lines.new.writer) (holds c.put_result.new.writer)
          (ap (λ k. known k) c.new-server.ensures.1 ∙ c.in-Ok.ensures.opened.1) c.into_pass-pass.ensures.1 c.in_ok-journal.ensures.all
          (subst (λ (s : Setting). IsLegalFrom s.volume c.in_ok-journal.journal.entries) c.in-Ok.ensures.begins c.in_ok-journal.ensures.legal)
          (subst (λ (s : Setting). CanEncodeEach s.pages s.volume c.in_ok-journal.journal.entries) c.in-Ok.ensures.begins c.in_ok-journal.ensures.volumes) c.in_ok-run_lines.ensures.ok is.1,
    ))

pub returns-in_default-clause-err : goal.returns-in_default-clause-err
returns-in_default-clause-err g c = nothing_reported c.args.limits c.args.script.now (g.W.Write.contents c.args.writer.now)

pub returns-in_err-run_lines-clause-err : goal.returns-in_err-run_lines-clause-err
returns-in_err-run_lines-clause-err g c =
    let holds = g.W.Write.contents in
    always_err _ (reported_replies c.args.limits c.args.script.now (known c.new-server.result.knows) (holds c.args.writer.now) (holds c.run_lines.new.writer)
    (ap (λ k. known k) c.new-server.ensures.1 ∙ c.in-Ok.ensures.opened.1) c.in_err-run_lines.ensures.err)

pub returns-in_err-journal-clause-err : goal.returns-in_err-journal-clause-err
returns-in_err-journal-clause-err g c =
    let holds = g.W.Write.contents in
    always_err _ (all_replies_reported c.args.limits c.args.script.now (known c.new-server.result.knows) (known c.run_lines.new.server.knows)
    (holds c.args.writer.now) (holds c.run_lines.new.writer) (ap (λ k. known k) c.new-server.ensures.1 ∙ c.in-Ok.ensures.opened.1) c.in_ok-run_lines.ensures.ok)

pub returns-clause-err : goal.returns-clause-err
returns-clause-err g c =
    let holds = g.W.Write.contents in
    on_err c.put_result.result (
    reported_in_part c.args.limits c.args.script.now c.new-server.result.knows c.run_lines.new.server.knows c.into_pass-pass.result.knows c.in_ok-journal.journal.entries
    (holds c.args.writer.now) (holds c.run_lines.new.writer) (holds c.put_result.new.writer)
    (ap (λ k. known k) c.new-server.ensures.1 ∙ c.in-Ok.ensures.opened.1) c.into_pass-pass.ensures.1 c.in_ok-journal.ensures.all
    (subst (λ (s : Setting). IsLegalFrom s.volume c.in_ok-journal.journal.entries) c.in-Ok.ensures.begins c.in_ok-journal.ensures.legal)
    (subst (λ (s : Setting). CanEncodeEach s.pages s.volume c.in_ok-journal.journal.entries) c.in-Ok.ensures.begins c.in_ok-journal.ensures.volumes) c.in_ok-run_lines.ensures.ok) c.put_result.ensures.err

pub returns-in_default-clause-whole : goal.returns-in_default-clause-whole
returns-in_default-clause-whole g c is = no_line_reported c.args.limits c.args.script.now (g.W.Write.contents c.args.writer.now)

pub returns-in_err-run_lines-clause-whole : goal.returns-in_err-run_lines-clause-whole
returns-in_err-run_lines-clause-whole g c =
    let holds = g.W.Write.contents in
    passed_up c.from_residual.result c.in_err-run_lines.field-0.0 _ c.from_residual.ensures.1 (on_memory c.in_err-run_lines.field-0.0
    (first_lines_reported c.args.limits c.args.script.now (known c.new-server.result.knows) (holds c.args.writer.now) (holds c.run_lines.new.writer)
    (ap (λ k. known k) c.new-server.ensures.1 ∙ c.in-Ok.ensures.opened.1)) c.in_err-run_lines.ensures.whole)

pub returns-in_err-journal-clause-whole : goal.returns-in_err-journal-clause-whole
returns-in_err-journal-clause-whole g c =
    let holds = g.W.Write.contents in
    passed_up c.from_residual-in_err-journal.result c.in_err-journal.field-0.0 _ c.from_residual-in_err-journal.ensures.1 (λ is.
    all_lines_reported c.args.limits c.args.script.now (known c.new-server.result.knows) (known c.run_lines.new.server.knows)
    (holds c.args.writer.now) (holds c.run_lines.new.writer) (holds c.run_lines.new.writer) (ap (λ k. known k) c.new-server.ensures.1 ∙ c.in-Ok.ensures.opened.1) c.in_ok-run_lines.ensures.ok refl)

pub returns-clause-whole : goal.returns-clause-whole
returns-clause-whole g c =
    let holds = g.W.Write.contents in
    each_err c.put_result.result (λ e. on_memory e (
    all_lines_reported c.args.limits c.args.script.now (known c.new-server.result.knows) (known c.run_lines.new.server.knows)
    (holds c.args.writer.now) (holds c.run_lines.new.writer) (holds c.put_result.new.writer) (ap (λ k. known k) c.new-server.ensures.1 ∙ c.in-Ok.ensures.opened.1) c.in_ok-run_lines.ensures.ok))
    c.put_result.ensures.whole
