use Rattle.be_script_runner.proofs.OwnLemmas.{pass_served}
use Rattle.be_script_runner.proofs.RaceLemmas.{on_at_ok}
use Rattle.be_script_runner.proofs.runs.serve_pass.Goals as goal

pub returns-in-Ok-clause-own : goal.returns-in-Ok-clause-own
returns-in-Ok-clause-own g c =
    (pass_served c.args.pass.knows c.serve_lines-pass.result.0.knows c.args.script.now c.new-replies.result.items c.serve_lines-pass.new.replies.items
    c.requires.fresh c.is_pass.ensures c.new-replies.ensures.items (on_at_ok _ c.in-Ok.is c.serve_lines-pass.ensures.served)).1

pub returns-in-Ok-clause-replies : goal.returns-in-Ok-clause-replies
returns-in-Ok-clause-replies g c =
    (pass_served c.args.pass.knows c.serve_lines-pass.result.0.knows c.args.script.now c.new-replies.result.items c.serve_lines-pass.new.replies.items
    c.requires.fresh c.is_pass.ensures c.new-replies.ensures.items (on_at_ok _ c.in-Ok.is c.serve_lines-pass.ensures.served)).0

pub returns-in-Ok-clause-mine : goal.returns-in-Ok-clause-mine
returns-in-Ok-clause-mine g c = c.is_pass.ensures.mine

pub returns-in-Ok-clause-reported : goal.returns-in-Ok-clause-reported
returns-in-Ok-clause-reported g c = on_at_ok _ c.in-Ok.is c.serve_lines-pass.ensures.reported
