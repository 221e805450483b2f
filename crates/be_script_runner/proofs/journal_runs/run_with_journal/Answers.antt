use Rattle.std.proofs.Common.{List, ℕ, refl, rules, subst, arith}
use Rattle.std.specs.Prelude.{Err, IfErr, IfOk, OnErr, ◌≡◌, true}
use Rattle.be_script_runner.specs.Run.{AreFirstReplies, Wrote, IsEarly, IsLate}
use Rattle.be_script_runner.specs.Store.{start}
use Rattle.be_script_runner.specs.JournalRuns.{IsReportedInPart, IsReportedRun}
use Rattle.be_script_runner.specs.declared.faults.RunFault.TheVariants.{Limits, Memory}
use Rattle.be_script_runner.proofs.LimitLemmas.{no_fault, not_by}
use Rattle.be_script_runner.proofs.ReadLemmas.{no_reads, none_read, read_by, read_late, whole_fits}
use Rattle.be_script_runner.proofs.JournalRunLemmas.{reported_of_reader, stops_early, stops_late}
use Rattle.be_script_runner.proofs.journal_runs.run_with_journal.Goals as goal

pub returns-then-not-are_within-clause-limits : goal.returns-then-not-are_within-clause-limits
returns-then-not-are_within-clause-limits g c = (λ _. c.are_within.ensures.bad (search rules), λ _. refl)

pub returns-then-not-are_within-clause-taken : goal.returns-then-not-are_within-clause-taken
returns-then-not-are_within-clause-taken g c = none_read (g.R.ScriptReader.remaining c.args.reader.now)

pub run_on_new-requires : goal.run_on_new-requires
run_on_new-requires g c = c.are_within.ensures.within (search rules)

pub returns-in-Ok-clause-limits : goal.returns-in-Ok-clause-limits
returns-in-Ok-clause-limits g c =
    no_fault c.args.limits c.run_on_new.result (c.are_within.ensures.within (search rules)) (not_by c.run_on_new.result IsLate Limits (λ never. never) c.run_on_new.ensures.late)

pub returns-in-Err-clause-limits : goal.returns-in-Err-clause-limits
returns-in-Err-clause-limits g c =
    no_fault c.args.limits (Err c.in-Err.fault) (c.are_within.ensures.within (search rules)) (not_by (Err c.in-Err.fault) IsEarly Limits (λ never. never) c.in-Err.ensures.early)

pub returns-in-Ok-clause-reported : goal.returns-in-Ok-clause-reported
returns-in-Ok-clause-reported g c =
    let old = g.W.Write.contents c.args.writer.now in
    let new = g.W.Write.contents c.run_on_new.new.writer in
    reported_of_reader c.run_on_new.result c.args.limits (g.R.ScriptReader.remaining c.args.reader.now) (g.R.ScriptReader.remaining c.read_script.new.reader) old new c.in-Ok.script.items c.in-Ok.ensures.ok
    (subst (λ (script : List ℕ). IfOk c.run_on_new.result (λ legal. (legal ≡ true) × Wrote old new (IsReportedRun c.args.limits script))) c.deref.ensures.value c.run_on_new.ensures.reported)

pub returns-in-Ok-clause-fits : goal.returns-in-Ok-clause-fits
returns-in-Ok-clause-fits g c =
    whole_fits c.run_on_new.result (g.R.ScriptReader.remaining c.args.reader.now) (g.R.ScriptReader.remaining c.read_script.new.reader) c.in-Ok.script.items c.in-Ok.ensures.ok
    (omega (arith, c.in-Ok.ensures.fits, c.in-Ok.script.ok.0))

pub returns-in-Ok-clause-fault : goal.returns-in-Ok-clause-fault
returns-in-Ok-clause-fault g c =
    let old = g.W.Write.contents c.args.writer.now in
    let new = g.W.Write.contents c.run_on_new.new.writer in
    stops_late c.run_on_new.result c.args.limits (g.R.ScriptReader.remaining c.args.reader.now) (g.R.ScriptReader.remaining c.read_script.new.reader) old new c.in-Ok.script.items
    c.run_on_new.ensures.late c.in-Ok.ensures.ok
    (subst (λ (script : List ℕ). OnErr c.run_on_new.result (Wrote old new (IsReportedInPart c.args.limits script))) c.deref.ensures.value c.run_on_new.ensures.err)
    (subst (λ (script : List ℕ). IfErr c.run_on_new.result (λ e. e ≡ Memory → Wrote old new (AreFirstReplies (start c.args.limits.commits) script)))
    c.deref.ensures.value c.run_on_new.ensures.whole)

pub returns-in-Err-clause-fault : goal.returns-in-Err-clause-fault
returns-in-Err-clause-fault g c =
    stops_early c.in-Err.fault c.args.limits (g.R.ScriptReader.remaining c.args.reader.now) (g.R.ScriptReader.remaining c.read_script.new.reader) (g.W.Write.contents c.args.writer.now) c.in-Err.ensures.err

pub returns-in-Ok-clause-taken : goal.returns-in-Ok-clause-taken
returns-in-Ok-clause-taken g c =
    read_late c.run_on_new.result (g.R.ScriptReader.remaining c.args.reader.now) (g.R.ScriptReader.remaining c.read_script.new.reader) c.in-Ok.script.items c.run_on_new.ensures.late c.in-Ok.ensures.ok
    (omega (arith, c.in-Ok.ensures.fits, c.in-Ok.script.ok.0))

pub returns-in-Err-clause-taken : goal.returns-in-Err-clause-taken
returns-in-Err-clause-taken g c = read_by c.in-Err.fault (g.R.ScriptReader.remaining c.args.reader.now) (g.R.ScriptReader.remaining c.read_script.new.reader) c.in-Err.ensures.err

pub returns-then-not-are_within-clause-reads : goal.returns-then-not-are_within-clause-reads
returns-then-not-are_within-clause-reads g c = no_reads (g.R.ScriptReader.was_read c.args.reader.now)
