use Rattle.std.proofs.Common.{ap, refl, subst, sym}
use Rattle.be_store.specs.Passes.{IsPinnedTo}
use Rattle.be_session.specs.Sitting.{Sitting}
use Rattle.be_session.proofs.session.Session.changed.Goals as goal

pub get-requires-clause-pinned : goal.get-requires-clause-pinned
get-requires-clause-pinned c = (
  c.args.change.now.number,
  subst (λ k. IsPinnedTo k c.args.change.now.number) (sym (ap (λ (s : Sitting). s.knows) c.self.view_is)) (c.if-not-owns.ensures.yes refl).0,
)
