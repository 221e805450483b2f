use Rattle.std.proofs.Common.{◌≡◌, List, ℕ, IfErr, OnErr, subst, arith}
use Rattle.be_script_runner.specs.Output.{IsFrontOfOutput, IsOutputTo}
use Rattle.be_script_runner.specs.Run.{AreFirstReplies, Wrote}
use Rattle.be_script_runner.specs.declared.faults.RunFault.TheVariants.{Memory}
use Rattle.be_script_runner.proofs.ReadLemmas.{read_by, read_late, whole_fits}
use Rattle.be_script_runner.proofs.RunLemmas.{left_by, left_late, on_ok, whole_output}
use Rattle.be_script_runner.proofs.runs.serve.Goals as goal

pub returns-in-Ok-clause-output : goal.returns-in-Ok-clause-output
returns-in-Ok-clause-output g c =
    let store = g.S.Server.shows c.args.server.now in
    let after = g.S.Server.shows c.run_lines.new.server in
    let old = g.W.Write.contents c.args.writer.now in
    let new = g.W.Write.contents c.run_lines.new.writer in
    on_ok c.run_lines.result (λ w.
    whole_output store after (g.R.ScriptReader.remaining c.args.reader.now) (g.R.ScriptReader.remaining c.read_script.new.reader) old new c.in-Ok.script.items c.in-Ok.ensures.ok
    (subst (λ (script : List ℕ). Wrote old new (IsOutputTo store script after)) c.deref.ensures.value w)) c.run_lines.ensures.ok

pub returns-in-Ok-clause-fits : goal.returns-in-Ok-clause-fits
returns-in-Ok-clause-fits g c =
    whole_fits c.run_lines.result (g.R.ScriptReader.remaining c.args.reader.now) (g.R.ScriptReader.remaining c.read_script.new.reader) c.in-Ok.script.items c.in-Ok.ensures.ok
    (omega (arith, c.in-Ok.ensures.fits, c.in-Ok.script.ok.0))

pub returns-in-Ok-clause-taken : goal.returns-in-Ok-clause-taken
returns-in-Ok-clause-taken g c =
    read_late c.run_lines.result (g.R.ScriptReader.remaining c.args.reader.now) (g.R.ScriptReader.remaining c.read_script.new.reader) c.in-Ok.script.items c.run_lines.ensures.late c.in-Ok.ensures.ok
    (omega (arith, c.in-Ok.ensures.fits, c.in-Ok.script.ok.0))

pub returns-in-Err-clause-taken : goal.returns-in-Err-clause-taken
returns-in-Err-clause-taken g c = read_by c.in-Err.fault (g.R.ScriptReader.remaining c.args.reader.now) (g.R.ScriptReader.remaining c.read_script.new.reader) c.in-Err.ensures.err

pub returns-in-Err-clause-fault : goal.returns-in-Err-clause-fault
returns-in-Err-clause-fault g c = left_by c.in-Err.fault (g.S.Server.shows c.args.server.now) (g.R.ScriptReader.remaining c.args.reader.now) (g.R.ScriptReader.remaining c.read_script.new.reader) (g.W.Write.contents c.args.writer.now) c.in-Err.ensures.err

pub returns-in-Ok-clause-fault : goal.returns-in-Ok-clause-fault
returns-in-Ok-clause-fault g c =
    let store = g.S.Server.shows c.args.server.now in
    let old = g.W.Write.contents c.args.writer.now in
    let new = g.W.Write.contents c.run_lines.new.writer in
    left_late c.run_lines.result store (g.R.ScriptReader.remaining c.args.reader.now) (g.R.ScriptReader.remaining c.read_script.new.reader) old new c.in-Ok.script.items c.run_lines.ensures.late c.in-Ok.ensures.ok
    (subst (λ (script : List ℕ). OnErr c.run_lines.result (Wrote old new (IsFrontOfOutput store script))) c.deref.ensures.value c.run_lines.ensures.err)
    (subst (λ (script : List ℕ). IfErr c.run_lines.result (λ e. e ≡ Memory → Wrote old new (AreFirstReplies store script))) c.deref.ensures.value c.run_lines.ensures.whole)
