use Rattle.std.proofs.Common.{ap, refl, subst, ◌∙◌}
use Rattle.be_table.specs.Place.{Opened}
use Rattle.be_session.specs.Sitting.{Meet}
use Rattle.be_session.proofs.share.Share.meet.Goals as goal

pub returns-clause-met : goal.returns-clause-met
returns-clause-met c =
    let other = c.in-Some.returned.pass.knows in (
      refl,
      (
        other,
        (c.in-Some.ensures.0.0.2 ∙ ap (λ (o : Opened). o.limits) c.deref.ensures, c.in-Some.ensures.1),
        c.meet-length.new.self.pass.knows,
        subst (λ (o : Opened). Meet o c.args.pass.now.knows other c.meet-length.new.pass.knows c.meet-length.new.self.pass.knows c.meet-length.result)
            (c.store.ensures ∙ c.deref-2.ensures) c.meet-length.ensures.met,
      ),
    )
