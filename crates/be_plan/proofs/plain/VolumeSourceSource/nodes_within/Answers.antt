use Rattle.std.proofs.Common.{sym, subst}
use Rattle.std.specs.Option.{option_copied}
use Rattle.be_volume.specs.Volume.{State}
use Rattle.be_plan.specs.Walk.{HasNodes}
use Rattle.be_plan.proofs.Reaching.{on_ok}
use Rattle.be_plan.proofs.plain.VolumeSourceSource.nodes_within.Goals as goal

pub returns-clause-has : goal.returns-clause-has
returns-clause-has c =
    let P : State → Type 0 = λ s. HasNodes s c.args.keys.name.now c.args.keys.low.now (option_copied c.args.keys.high) c.nodes_in.new.found.items in
    on_ok c.nodes_in.result (λ has v is. subst P (sym is.same) (subst P c.self.view_is has)) c.nodes_in.ensures.has
