use Rattle.std.proofs.Common.{List, ap, map, subst, sym, ◌∙◌}
use Rattle.be_table.specs.Place.{SeatFacts}
use Rattle.be_table.specs.Steps.{Has}
use Rattle.be_table.specs.Works.{AllAt, knows_of}
use Rattle.be_session.specs.Sitting.{IsUnpinnedOf, MayWaitAt}
use Rattle.be_session.proofs.Collected.{at_more, has_last}
use Rattle.be_session.proofs.Spare.{waits_numbered, waits_unpinned}
use Rattle.be_session.proofs.shared.collect.Goals as goal

pub returns-in-Some-clause-here : goal.returns-in-Some-clause-here
returns-in-Some-clause-here c =
    let waits = subst (λ s. MayWaitAt s c.in-Some.returned.pass) c.index-slots-k.is c.in-Some.ensures in
    let one : IsUnpinnedOf c.args.store.now c.into_pass.result = subst (IsUnpinnedOf c.args.store.now) (sym c.into_pass.ensures.pass)
    (waits_unpinned c.args.store.now c.args.slots.now c.args.k c.index-slots-k.result c.in-Some.returned.pass c.requires.seats.0 c.requires.seats.1 waits) in
    subst (AllAt c.args.store.now.id) (sym c.push_reserved.ensures.items)
    (at_more c.args.store.now.id c.args.passes.now.items c.into_pass.result c.requires.here one.0.0.0 one.0.0.1)

pub returns-in-Some-clause-has : goal.returns-in-Some-clause-has
returns-in-Some-clause-has c = λ is.
    let waits = subst (λ s. MayWaitAt s c.in-Some.returned.pass) c.index-slots-k.is c.in-Some.ensures in
    let number = waits_numbered c.args.store.now c.args.slots.now c.args.k c.index-slots-k.result c.in-Some.returned.pass c.requires.seats.0 c.requires.seats.1 waits in
    subst (λ (ss : List SeatFacts). Has (map knows_of ss) c.args.k) (sym c.push_reserved.ensures.items)
    (has_last c.args.passes.now.items c.into_pass.result c.args.k (ap (λ (s : SeatFacts). s.knows.number) c.into_pass.ensures.pass ∙ number))
