use Rattle.example_history.proofs.Made.{written_once}
use Rattle.example_history.proofs.write.Goals as goal

pub returns-clause-calls : goal.returns-clause-calls
returns-clause-calls c =
    written_once c.args.pass.now.knows c.apply_or_retry.new.pass.knows c.args.ops.now c.in_ok-number.number c.in_ok-number.outcomes.items c.in_ok-number.ensures.accepted
