use Rattle.std.proofs.Common.{◌≡◌, ◌<◌, IsTrue, sym, ap, ◌∙◌, subst, arith}
use Rattle.be_core.specs.Machine.{has}
use Rattle.be_table.specs.Rule.{one_step_on, pass_of, reach_at}
use Rattle.be_table.proofs.Reported.{reported_as, stepped_pass}
use Rattle.be_table.proofs.Moves.{pinned_as}
use Rattle.be_table.proofs.Pins.{page_inside}
use Rattle.be_table.proofs.table.VersionTable.pinned_word.Goals as goal

pub load-found-requires : goal.load-found-requires
load-found-requires c =
    let p = c.into_base-base.ensures.pass in let i = c.self.invariant in let t = c.into_base-base.ensures.reported in
    let k = ap (λ s. s.knows) c.move_out.ensures.0 in
    let r = c.requires.pinned in
    let phase = ap (λ n. n.phase) k ∙ r.2 in
    let reached : IsTrue (has (reach_at c.move_out.result.knows.limits c.move_out.result.knows.seen r.1) c.args.page) = subst (λ n. IsTrue (has (reach_at n.limits n.seen r.1) c.args.page)) (sym k) r.3 in
    let low : c.args.page < c.move_out.result.knows.limits.pages = page_inside _ r.0 r.1 c.args.page t.1.pass phase reached in
    let same : c.move_out.result.knows.limits.pages ≡ c.self.inside.limits.pages = ap (λ s. s.knows.limits.pages) c.move_out.ensures.0 ∙ ap (λ l. l.pages) c.requires.seat.2 ∙ sym (ap (λ t. t.limits.pages) c.self.view_is) ∙ sym (ap (λ l. l.pages) i.2) in (
      p.0 ∙ ap (λ s. s.table) c.move_out.ensures.0 ∙ c.requires.seat.1 ∙ sym (ap (λ t. t.id) c.self.view_is),
      omega (arith, i.0, c.requires.place),
      pinned_as _ _ _ c.move_out.result.knows _ _ p.1 r.0 r.1 c.args.page c.args.i _ phase reached c.requires.place (omega arith),
    )

pub of-requires-clause-reported : goal.of-requires-clause-reported
of-requires-clause-reported c =
    let t = c.into_base-base.ensures.reported.1 in
    let a = c.move_out.result.knows in
    reported_as (one_step_on a) c.load-found.new.seat.me c.into_base-base.result.1.number c.into_base-base.result.1.seen
    (ap (λ m. pass_of m.0) c.load-found.ensures.2.0 ∙ ap (λ m. one_step_on (pass_of m.0)) c.into_base-base.ensures.pass.1)
    (record { number_is = t.number_is; seen_is = t.seen_is; writes = t.writes; pass = stepped_pass a _ t.pass })
