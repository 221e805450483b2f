use Rattle.std.proofs.Common.{[], ◌∷◌, subst}
use Rattle.be_table.specs.Place.{Opened, SeatFacts}
use Rattle.be_table.specs.Trace.{HasTrace}
use Rattle.be_store.proofs.store.Store.meet.Goals as goal

pub returns-clause-trace : goal.returns-clause-trace
returns-clause-trace c =
    subst (λ (x : Opened × SeatFacts × SeatFacts). HasTrace x.0.limits (x.1.knows ∷ x.2.knows ∷ [])) (λ i. (c.self.view_is i, c.move_out.ensures.0 i, c.move_out-2.ensures.0 i)) c.meet-first.ensures.trace
