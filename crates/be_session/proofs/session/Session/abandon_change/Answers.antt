use Rattle.std.proofs.Common.{ap, refl, subst, sym}
use Rattle.be_store.specs.Passes.{IsPinnedTo}
use Rattle.be_session.specs.Sitting.{Sitting}
use Rattle.be_session.proofs.session.Session.abandon_change.Goals as goal

pub abandon-requires-clause-pinned : goal.abandon-requires-clause-pinned
abandon-requires-clause-pinned c = (
  c.args.change.number,
  subst (λ k. IsPinnedTo k c.args.change.number) (sym (ap (λ (s : Sitting). s.knows) c.self.view_is)) (c.if-not-owns.ensures.yes refl).0,
)
