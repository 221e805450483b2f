use Rattle.std.proofs.Common.{ap, ◌∙◌}
use Rattle.std.specs.FinMap as map
use Rattle.be_volume.proofs.MapLemmas.{names_total, exact_names, removed}
use Rattle.be_volume.proofs.maps.Named.remove.Goals as goal

pub returns : goal.returns
returns g c = removed names_total exact_names c.self.inside.named.entries c.remove.new.self.entries c.args.name.now c.remove.ensures.updates.0 ∙ ap (λ m. map.remove m c.args.name.now) c.self.view_is
