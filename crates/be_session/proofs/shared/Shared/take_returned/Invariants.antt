use Rattle.be_session.specs.Sitting.{AreAllSeats}
use Rattle.be_session.proofs.shared.Shared.take_returned.Given as goal

abbrev pub invariant-loop-slot : goal.invariant-loop-slot
invariant-loop-slot l = AreAllSeats l.self l.slot-items
