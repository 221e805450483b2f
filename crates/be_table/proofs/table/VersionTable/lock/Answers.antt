use Rattle.std.proofs.Common.{◌≡◌, ◌+◌, ◌-◌, Some, sym, ap, ◌∙◌, subst, arith}
use Rattle.be_table.specs.declared.pass.Knowledge.{Knowledge}
use Rattle.be_table.specs.History.{StartsWith}
use Rattle.be_table.specs.Seats.{pin_of}
use Rattle.be_table.specs.Trace.{upto_lock}
use Rattle.be_table.proofs.Meetings.{met_pin}
use Rattle.be_table.proofs.Locks.{locks_as, gained, late, is_out}
use Rattle.be_table.specs.Rule.{pass_of}
use Rattle.be_table.specs.Steps.{finds_held}
use Rattle.be_table.proofs.Reported.{reported_as, late_pass}
use Rattle.be_table.proofs.Worked.{upto_now}
use Rattle.be_table.proofs.table.VersionTable.lock.Goals as goal

pub compare_exchange-found-requires : goal.compare_exchange-found-requires
compare_exchange-found-requires c =
    let p = c.into_base-base.ensures.pass in let t = c.into_base-base.ensures.reported in let i = c.self.invariant in
    (p.0 ∙ c.requires.1 ∙ sym (ap (λ t. t.id) c.self.view_is), omega (arith, i.0), locks_as _ _ _ c.args.seat.knows _ _ p.1 _ t.1.writes (ap (λ n. n + 1) (sym t.1.number_is)))

pub exchange-requires : goal.exchange-requires
exchange-requires c =
    let p = c.into_base-base.ensures.pass in
    let e = c.compare_exchange-found.ensures in
    let g = (gained c.into_base-base.result.0.me c.compare_exchange-found.result c.compare_exchange-found.new.seat.me _ e.2 c.if-found-eq0.true).3 in
    (e.0 ∙ p.0 ∙ c.requires.1 ∙ sym (ap (λ t. t.id) c.self.view_is), (Some g.0, is_out _ _ (0, Some g.0) (ap (λ m. m.1) g.3.0)))

pub of-requires-else-found-eq0-clause-reported : goal.of-requires-else-found-eq0-clause-reported
of-requires-else-found-eq0-clause-reported c =
    let t = c.into_base-base.ensures.reported.1 in
    let l = late c.into_base-base.result.0.me c.compare_exchange-found.result c.compare_exchange-found.new.seat.me _ c.compare_exchange-found.ensures.2 c.if-found-eq0.false in
    let b = c.compare_exchange-found.result - 1 in
    reported_as (finds_held c.args.seat.knows b) c.compare_exchange-found.new.seat.me c.into_base-base.result.1.number c.into_base-base.result.1.seen
    (ap (λ m. pass_of m.0) l.0 ∙ ap (λ m. finds_held (pass_of m.0) b) c.into_base-base.ensures.pass.1)
    (record { number_is = t.number_is; seen_is = t.seen_is; writes = t.writes; pass = late_pass c.args.seat.knows b t.pass })

pub of-requires-clause-begun : goal.of-requires-clause-begun
of-requires-clause-begun c =
    let a = pass_of c.into_base-base.result.0.me.0 in
    let g = gained c.into_base-base.result.0.me c.compare_exchange-found.result c.compare_exchange-found.new.seat.me _ c.compare_exchange-found.ensures.2 c.if-found-eq0.true in
    subst (λ (x : Knowledge). upto_lock x.number x.history ≡ x.history) (sym (ap (λ m. pass_of m.0) c.exchange.ensures.3 ∙ ap (λ m. pass_of m.0) g.3.3.0))
    (upto_now a.number a.history g.0 g.1)

pub of-requires-clause-pin : goal.of-requires-clause-pin
of-requires-clause-pin c =
    let a = c.args.seat.knows in
    let g = gained c.into_base-base.result.0.me c.compare_exchange-found.result c.compare_exchange-found.new.seat.me _ c.compare_exchange-found.ensures.2 c.if-found-eq0.true in
    let e : pass_of c.into_base-base.result.0.me.0 ≡ a = ap (λ m. pass_of m.0) c.into_base-base.ensures.pass.1 in
    met_pin a g.3.1 c.into_base-base.result.1.pin c.into_base-base.ensures.reported.1.pass c.into_base-base.ensures.pin (subst (λ (x : Knowledge). StartsWith g.3.1 x.seen) e g.3.3.1)
    ∙ ap (λ (x : Knowledge). pin_of x.phase g.3.1) (sym e)
    ∙ sym (ap (λ (x : Knowledge). pin_of x.phase x.seen) (ap (λ m. pass_of m.0) c.exchange.ensures.3 ∙ ap (λ m. pass_of m.0) g.3.3.0))
