use Rattle.std.proofs.Common.{◌≡◌, ap, false, sym, ◌∙◌}
use Rattle.std.specs.Prelude.{is_some}
use Rattle.be_session.specs.States.{unreported}
use Rattle.bestore_c.proofs.Stated.{begun}
use Rattle.bestore_c.specs.States.{unreported_at}
use Rattle.bestore_c.proofs.states.begin.Goals as goal

pub returns-in-Ok-clause-same : goal.returns-in-Ok-clause-same
returns-in-Ok-clause-same c = λ volume.
    let closed : is_some c.args.place.now.owned.value ≡ false = sym c.args.place.now.full ∙ c.if-place.false in
    ap (unreported_at volume) c.of.ensures ∙ begun volume c.args.place.now.owned.value c.in-Ok.begun.value closed (ap (unreported volume) c.in-Ok.ensures.ok ∙ c.new.ensures volume)
