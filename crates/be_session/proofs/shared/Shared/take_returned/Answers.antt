use Rattle.std.proofs.Common.{subst}
use Rattle.be_session.specs.Sitting.{MayWaitAt}
use Rattle.be_session.proofs.Spare.{waits_unpinned}
use Rattle.be_session.proofs.shared.Shared.take_returned.Goals as goal

pub returns-in-Some : goal.returns-in-Some
returns-in-Some c =
    waits_unpinned c.args.self.now _ c.loop-slot.slot-index c.slot-item.result c.in-Some.returned.pass c.loop-slot.invariant c.loop-slot-test.true
    (subst (λ s. MayWaitAt s c.in-Some.returned.pass) c.slot-item.is c.in-Some.ensures)
