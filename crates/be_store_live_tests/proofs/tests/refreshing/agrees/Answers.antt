use Rattle.std.proofs.Common.{ap, ◌∙◌}
use Rattle.be_store.specs.Seats.{pinned_number}
use Rattle.be_table.specs.declared.pass.Knowledge.{Knowledge}
use Rattle.be_store_live_tests.proofs.tests.refreshing.agrees.Goals as goal

pub refresh_changed-requires-clause-pinned : goal.refresh_changed-requires-clause-pinned
refresh_changed-requires-clause-pinned c = (c.pin_if_not.result, c.pin_if_not.ensures.pinned)

pub unpin-requires-clause-pinned : goal.unpin-requires-clause-pinned
unpin-requires-clause-pinned c =
    (c.pin_if_not.result, ap (λ (k : Knowledge). pinned_number k.phase) c.query-2.ensures.pass.1 ∙ (ap pinned_number c.refresh_changed.ensures.learns.pin ∙ c.pin_if_not.ensures.pinned))
