use Rattle.std.proofs.Common.{arith, ◌<◌, map, sym, ap, ◌∙◌, subst}
use mathlib.Core.Option.{some, some-injective}
use Rattle.be_table.specs.Works.{knows_of}
use Rattle.be_table.proofs.Closing.{arrives, ends, closes, Closes}
use Rattle.be_table.proofs.table.VersionTable.close.Goals as goal

pub unreachable-requires : goal.unreachable-requires
unreachable-requires c =
    let g = c.gather.ensures.passes in
    let e = ends c.self.inside.table.shared.key c.gather.new.rest.id c.gather.new.rest.me.0 _ _ g.idle (λ k lt. g.all k (c.requires.1 k (subst (λ t. k < t.limits.passes) c.self.view_is lt))) c.close_with-closed.ensures.values.2 in
    c.in_default.not-Some e.0 (some-injective _ _ (sym c.take-slot.ensures.value ∙ e.1))

closed : (c : goal.After-drop-self-inside) → Closes c.args.self.limits (map knows_of c.args.seats.items) c.into_journal.result
closed c =
    let g = c.gather.ensures.passes in
    let limits = ap (λ t. t.limits) c.self.view_is in
    subst (λ l. Closes l (map knows_of c.args.seats.items) c.into_journal.result) limits
    (closes c.self.inside.table.shared.key (map knows_of c.args.seats.items) c.gather.new.rest.id c.gather.new.rest.me.0 _ _ c.in-Some.writer_state c.into_journal.result g
    (λ k lt. c.requires.1 k (subst (λ l. k < l.passes) limits lt)) c.close_with-closed.ensures.values.2 (c.take-slot.ensures.value ∙ ap some c.in-Some.is) c.into_journal.ensures)

pub returns-clause-legal : goal.returns-clause-legal
returns-clause-legal c = (closed c).legal

pub returns-clause-by : goal.returns-clause-by
returns-clause-by c = (closed c).by_passes

pub returns-clause-seats : goal.returns-clause-seats
returns-clause-seats c = (closed c).keeps

pub returns-clause-volumes : goal.returns-clause-volumes
returns-clause-volumes c = (closed c).volumes

pub returns-clause-limit : goal.returns-clause-limit
returns-clause-limit c = (closed c).limit

pub returns-clause-trace : goal.returns-clause-trace
returns-clause-trace c = (closed c).traced

pub load_new_seat-rest-requires : goal.load_new_seat-rest-requires
load_new_seat-rest-requires c = (omega (arith, c.self.invariant.0), arrives _ _)
