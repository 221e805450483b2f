use Rattle.std.proofs.Common.{arith, refl, rules, subst, sym, ◌∙◌}
use Rattle.be_session.specs.Sitting.{AreAllSeats}
use Rattle.be_table.specs.Place.{Opened}
use Rattle.be_table.specs.Works.{AllAt}
use Rattle.be_session.proofs.Collected.{have_next, starts_have, starts_more}
use Rattle.be_session.proofs.shared.collect_all.Goals as goal

pub loop-k-preserved : goal.loop-k-preserved
loop-k-preserved c =
    let before = c.loop-k.passes.items in
    let after = c.collect.new.passes.items in record {
      same = c.collect.ensures.store ∙ c.loop-k.invariant.same;
      here = subst (λ (o : Opened). AllAt o.id after) c.loop-k.invariant.same c.collect.ensures.here;
      own = starts_have before after c.args.own c.collect.ensures.more c.loop-k.invariant.own;
      have = have_next before after c.loop-k.k c.collect.ensures.more c.loop-k.invariant.have (c.if-not-collect.ensures.has refl);
      more = starts_more c.args.passes.now.items before after c.loop-k.invariant.more c.collect.ensures.more;
      room = omega (arith, c.loop-k.invariant.room, c.collect.ensures.room.0, c.collect.ensures.room.1);
    }

pub collect-requires-clause-seats : goal.collect-requires-clause-seats
collect-requires-clause-seats c = (subst (λ (o : Opened). AreAllSeats o c.args.slots.now) (sym c.loop-k.invariant.same) c.requires.seats, search rules)

pub returns-then-not-collect-clause-store : goal.returns-then-not-collect-clause-store
returns-then-not-collect-clause-store c = c.collect.ensures.store ∙ c.loop-k.invariant.same

pub returns-then-not-collect-clause-here : goal.returns-then-not-collect-clause-here
returns-then-not-collect-clause-here c = subst (λ (o : Opened). AllAt o.id c.collect.new.passes.items) c.loop-k.invariant.same c.collect.ensures.here
