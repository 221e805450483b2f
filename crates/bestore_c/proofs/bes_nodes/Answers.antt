use Rattle.std.proofs.Common.{◌≡◌, Ok, Some, length, refl, ◌∙◌}
use Rattle.be_paged_reading.specs.Nodes.{nodes_from}
use Rattle.be_store.specs.Passes.{HasRead, volume_pinned}
use Rattle.be_table.specs.Seats.{pinned_number}
use Rattle.bestore_c.specs.Calls.{IsClosed, PutsOutAtPin}
use Rattle.bestore_c.proofs.Called.{called}
use Rattle.bestore_c.proofs.bes_nodes.Goals as goal

pub returns-clause-pass : goal.returns-clause-pass
returns-clause-pass c =
    let was : c.args.pass.now.owned.value ≡ Some c.lent.result.now = c.typed.ensures.value ∙ c.lent.ensures.value in
    let before = c.lent.result.now.knows in
    called c.args.pass.now.owned.value _ c.lent.result.now c.nodes-answer.new.self (IsClosed c.report.new.count c.report.result)
    (λ s t. HasRead s.knows t.knows × PutsOutAtPin (pinned_number s.knows.phase)
    (Ok (nodes_from (volume_pinned s.knows) c.args.from (length c.args.nodes.now))) c.args.nodes.now c.report.new.nodes c.report.new.count c.report.result)
    was refl c.nodes-answer.ensures.store.0 c.nodes-answer.ensures.store.1 (
      c.nodes-answer.ensures.read,
      c.report.ensures.found (pinned_number before.phase) (Ok (nodes_from (volume_pinned before) c.args.from (length c.args.nodes.now)))
          c.nodes-answer.ensures.nodes,
    )
