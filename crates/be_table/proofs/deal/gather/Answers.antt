use Rattle.std.proofs.Common.{[], ◌∷◌, ◌++◌, map, sym, ap, ◌∙◌, subst, arith, append_assoc}
use Rattle.be_table.specs.Rule.{seats_together}
use Rattle.be_table.specs.Works.{AllAt, Gathered, knows_of}
use Rattle.be_table.proofs.Deals.{Me2, joins}
use Rattle.be_table.proofs.Closing.{AllAt-parts, gathered_more}
use Rattle.be_table.proofs.deal.gather.Goals as goal

pub into_base-other-requires : goal.into_base-other-requires
into_base-other-requires c = (AllAt-parts _ c.pop.new.self.items c.in-Some.seat (subst (AllAt c.args.table.now.shared.table_id) c.in-Some.ensures.items c.loop-seat.invariant.seats)).1

pub join_seat-requires : goal.join_seat-requires
join_seat-requires c =
    let i = c.loop-seat.invariant in let p = c.into_base-other.ensures.pass in
    let at = AllAt-parts _ c.pop.new.self.items c.in-Some.seat (subst (AllAt c.args.table.now.shared.table_id) c.in-Some.ensures.items i.seats) in
    (i.table, p.0 ∙ at.2, ap (λ m. m.1) p.1, omega (arith, c.requires.table), joins _ _ _ _ _)

pub loop-seat-preserved : goal.loop-seat-preserved
loop-seat-preserved c =
    let i = c.loop-seat.invariant in let p = c.into_base-other.ensures in let j = c.join_seat.ensures in
    let s = c.in-Some.seat in
    let at = AllAt-parts _ c.pop.new.self.items s (subst (AllAt c.args.table.now.shared.table_id) c.in-Some.ensures.items i.seats) in
    let taken = i.passes.0 in
    let me = j.2 ∙ ap (λ (m : Me2). (seats_together c.loop-seat.rest.me.0 m.0, c.loop-seat.rest.me.1)) p.pass.1 in
    record {
      table = j.0 ∙ i.table;
      id = j.1 ∙ i.id;
      empty = ap (λ (m : Me2). m.1) me ∙ i.empty;
      seats = at.0;
      passes = (
        s ∷ taken,
        sym (append_assoc c.pop.new.self.items (s ∷ []) taken) ∙ ap (λ l. l ++ taken) (sym c.in-Some.ensures.items) ∙ i.passes.1,
        subst (λ (m : Me2). Gathered (map knows_of (s ∷ taken)) m.0.passes) (sym me) (gathered_more (map knows_of taken) c.loop-seat.rest.me.0.passes s.knows p.reported.1.writes i.passes.2),
      );
    }
