use Rattle.std.specs.Prelude.{vec_len}
use Rattle.std.proofs.Common.{◌≡◌, ap, subst, sym, ◌∙◌}
use Rattle.be_table.specs.History.{StartsWith}
use Rattle.be_table.specs.Steps.{longer, met}
use Rattle.be_table.specs.declared.pass.Knowledge.{Knowledge}
use Rattle.be_session.specs.Sitting.{Holding, IsTakenFrom, Sitting}
use Rattle.be_session.proofs.session.Session.another.Goals as goal

pub returns-clause-pass : goal.returns-clause-pass
returns-clause-pass c =
    let mine = c.self.inside.pass.knows in
    let inside = c.behind-session.inside in
    let other = inside.pass.knows in
    let held : Holding = record { spare = vec_len inside.spare; given = inside.share.given; vain = inside.share.vain; began = inside.share.began } in
    let old : mine ≡ c.args.self.now.knows = ap (λ (s : Sitting). s.knows) c.self.view_is ∙ c.take_another.ensures.same.1 in
    let taken : IsTakenFrom c.args.self.now c.take_another.new.self other held =
    subst (λ (u : Sitting). IsTakenFrom c.args.self.now c.take_another.new.self u.knows u.holds)
    (sym (c.behind-session.view_is ∙ c.deref_mut.ensures.value)) c.in_ok-session.ensures.pass in (
      other,
      subst (λ (t : Sitting). IsTakenFrom c.args.self.now t other held) (sym c.self.view_is) taken,
      subst (λ (k : Knowledge). StartsWith (longer k.seen other.seen) k.seen) old c.meet.ensures.left.0,
      subst (λ (k : Knowledge). StartsWith (longer k.seen other.seen) other.seen) old c.meet.ensures.right.0,
      subst (λ (k : Knowledge). c.meet.new.left.knows ≡ met k (longer k.seen other.seen)) old c.meet.ensures.left.1,
      subst (λ (k : Knowledge). c.meet.new.right.knows ≡ met other (longer k.seen other.seen)) old c.meet.ensures.right.1,
    )
