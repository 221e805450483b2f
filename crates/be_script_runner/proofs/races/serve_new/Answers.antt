use Rattle.be_script_runner.proofs.RaceLemmas.{from_new}
use Rattle.be_script_runner.proofs.races.serve_new.Goals as goal

pub returns-clause-replies : goal.returns-clause-replies
returns-clause-replies g c =
    let k = c.args.pass.knows.number in
    from_new (λ t. t.items) c.args.store.now.limits k c.args.pass.knows c.serve_pass.result.0.knows c.args.script.now c.serve_pass.result.1 c.requires.2 c.serve_pass.ensures.number
    c.serve_pass.ensures.mine c.serve_pass.ensures.own c.serve_pass.ensures.replies
