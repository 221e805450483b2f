use Rattle.std.proofs.Common.{sym, subst}
use Rattle.be_volume.specs.Keys.{IsKey}
use Rattle.be_volume.specs.Volume.{State}
use Rattle.be_plan.proofs.plain.VolumeSourceSource.has_key.Goals as goal

pub returns-clause-found : goal.returns-clause-found
returns-clause-found c = λ v is e.
    let P : State → Type 0 = λ s. IsKey s c.args.name.now c.args.key.now in
    subst P (sym is.same) (subst P c.self.view_is (c.has_key.ensures.found e))
