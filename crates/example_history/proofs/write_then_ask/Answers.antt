use Rattle.be_store.proofs.Calls.{calls_both}
use Rattle.example_history.specs.Visits.{asks, writes}
use Rattle.example_history.proofs.write_then_ask.Goals as goal

pub returns-in-Ok-ask : goal.returns-in-Ok-ask
returns-in-Ok-ask c =
    let a = c.args.pass.knows in
    let signed = c.in-Ok.signed in
    let found = c.in-Ok-ask.found in (
      c.ask.ensures.pass,
      calls_both a (writes a.number c.args.ops.now signed.number signed.outcomes.items) c.write.new.pass.knows (asks c.args.query.now found.pin found.nodes.items) c.ask.new.pass.knows
          c.in-Ok.ensures.calls c.in-Ok-ask.ensures.calls,
    )
