use Rattle.std.proofs.Common.{Some, ap, ◌∙◌, subst}
use Rattle.be_table.specs.Place.{Opened}
use Rattle.be_table.specs.declared.pass.Knowledge.{Knowledge}
use Rattle.be_store.specs.Passes.{IsPassOf}
use Rattle.be_script_runner.specs.Lines.{LeadTo}
use Rattle.be_script_runner.proofs.CallLemmas.{line_served}
use Rattle.be_script_runner.proofs.RunLemmas.{on_ok}
use Rattle.be_script_runner.proofs.passes.serve_line.Goals as goal

pub returns-clause-pass : goal.returns-clause-pass
returns-clause-pass c =
    subst (λ (store : Opened). IsPassOf store c.at_last.result) (ap (λ s. s.0) c.run_line-ran.ensures.stays ∙ c.at_first-server.ensures.store) c.at_last.ensures.pass

pub returns-clause-number : goal.returns-clause-number
returns-clause-number c =
    ap (λ (k : Knowledge). k.number) c.at_last.ensures.knows ∙ (ap (λ s. s.1) c.run_line-ran.ensures.stays ∙ ap (λ (k : Knowledge). k.number) c.at_first-server.ensures.knows)

pub returns-clause-ok : goal.returns-clause-ok
returns-clause-ok c =
    on_ok c.run_line-ran.result
    (line_served c.args.pass.knows c.at_first-server.result.knows c.run_line-ran.new.server.knows c.at_last.result.knows c.args.client.now c.run_line-ran.new.client c.args.line.now
    (Some c.args.replies.now.items) (Some c.run_line-ran.new.writer.items) c.at_first-server.ensures.knows c.at_last.ensures.knows
    (subst (λ (k : Knowledge). LeadTo k c.at_last.result.knows) (ap (λ s. s.2) c.run_line-ran.ensures.stays ∙ c.at_first-server.ensures.first) c.at_last.ensures.calls))
    c.run_line-ran.ensures.ok
