use Rattle.example_history.proofs.Made.{asked}
use Rattle.example_history.proofs.ask.Goals as goal

pub returns-clause-calls : goal.returns-clause-calls
returns-clause-calls c =
    asked c.args.pass.now.knows c.pin-pin.new.pass.knows c.query-answer.new.pass.knows c.unpin.new.pass.knows c.args.query.now c.pin-pin.result c.in_ok-nodes.field-0.nodes.items
    c.pin-pin.ensures.pin c.in_ok-nodes.ensures.nodes c.query-answer.ensures.pass.1 (c.unpin.ensures.unpinned, c.unpin.ensures.moves.made)
