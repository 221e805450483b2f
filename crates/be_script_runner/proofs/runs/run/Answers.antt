use Rattle.std.proofs.Common.{ap, ◌∙◌, refl, rules, subst}
use Rattle.std.specs.Prelude.{Err, IfErr}
use Rattle.be_table.specs.Setting.{begins_empty}
use Rattle.be_script_runner.specs.Run.{IsNotLimits, RunLeaves}
use Rattle.be_script_runner.specs.Served.{known}
use Rattle.be_script_runner.specs.Store.{Store, start}
use Rattle.be_script_runner.specs.declared.faults.RunFault.TheVariants.{Limits, Memory}
use Rattle.be_script_runner.proofs.LimitLemmas.{no_fault, not_by, served_encoded}
use Rattle.be_script_runner.proofs.ReadLemmas.{no_reads, none_read}
use Rattle.be_script_runner.proofs.RunLemmas.{none_answered_if, on_ok, run_output}
use Rattle.be_script_runner.proofs.runs.run.Goals as goal

pub returns-in_default-clause-fault : goal.returns-in_default-clause-fault
returns-in_default-clause-fault g c = none_answered_if (start c.args.limits.commits) (g.R.ScriptReader.remaining c.args.reader.now) (g.W.Write.contents c.args.writer.now)

pub returns-then-not-are_within-clause-taken : goal.returns-then-not-are_within-clause-taken
returns-then-not-are_within-clause-taken g c = none_read (g.R.ScriptReader.remaining c.args.reader.now)

pub returns-in_default-clause-taken : goal.returns-in_default-clause-taken
returns-in_default-clause-taken g c = none_read (g.R.ScriptReader.remaining c.args.reader.now)

pub returns-clause-output : goal.returns-clause-output
returns-clause-output g c =
    on_ok c.serve-ran.result
    (run_output c.args.limits (g.R.ScriptReader.remaining c.args.reader.now) (g.W.Write.contents c.args.writer.now) (g.W.Write.contents c.serve-ran.new.writer)
    (known c.new-server.result.knows) (known c.serve-ran.new.server.knows) (ap known c.new-server.ensures.1 ∙ c.in-Ok.ensures.opened.1)
    (served_encoded (begins_empty (record c.args.limits { passes = 1 })) c.in-Ok.store c.serve-ran.new.server.store c.into_pass-pass.result c.serve-ran.new.server.knows
    (ap (λ s. s.0) c.serve-ran.ensures.stays ∙ c.new-server.ensures.0) c.into_pass-pass.ensures.0 c.in-Ok.ensures.begins c.into_pass-pass.ensures.1 c.is_pass.ensures))
    c.serve-ran.ensures.output

pub returns-clause-fault : goal.returns-clause-fault
returns-clause-fault g c =
    subst (λ (s : Store). IfErr c.serve-ran.result (λ e.
    RunLeaves e s (g.R.ScriptReader.remaining c.args.reader.now) (g.W.Write.contents c.args.writer.now) (g.W.Write.contents c.serve-ran.new.writer)))
    (ap known c.new-server.ensures.1 ∙ c.in-Ok.ensures.opened.1) c.serve-ran.ensures.fault

pub open_for_one-requires : goal.open_for_one-requires
open_for_one-requires g c = c.are_within.ensures.within (search rules)

pub returns-then-not-are_within-clause-limits : goal.returns-then-not-are_within-clause-limits
returns-then-not-are_within-clause-limits g c = (λ _. c.are_within.ensures.bad (search rules), λ _. refl)

pub returns-in_default-clause-limits : goal.returns-in_default-clause-limits
returns-in_default-clause-limits g c = no_fault c.args.limits (Err Memory) (c.are_within.ensures.within (search rules)) (λ is. let e = is in cc)

pub returns-clause-limits : goal.returns-clause-limits
returns-clause-limits g c =
    no_fault c.args.limits c.serve-ran.result (c.are_within.ensures.within (search rules)) (not_by c.serve-ran.result IsNotLimits Limits (λ never. never) c.serve-ran.ensures.other)

pub returns-then-not-are_within-clause-reads : goal.returns-then-not-are_within-clause-reads
returns-then-not-are_within-clause-reads g c = no_reads (g.R.ScriptReader.was_read c.args.reader.now)

pub returns-in_default-clause-reads : goal.returns-in_default-clause-reads
returns-in_default-clause-reads g c = no_reads (g.R.ScriptReader.was_read c.args.reader.now)
