use Rattle.be_table.specs.Works.{AreNew}
use Rattle.be_session.proofs.shared.Shared.give_back_all.Given as goal

abbrev pub invariant-loop-left : goal.invariant-loop-left
invariant-loop-left l = AreNew l.self 0 l.passes.items
