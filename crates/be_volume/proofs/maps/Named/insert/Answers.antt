use Rattle.std.proofs.Common.{ap, ◌∙◌}
use Rattle.std.specs.FinMap as map
use Rattle.be_volume.proofs.MapLemmas.{names_total, exact_names, inserted}
use Rattle.be_volume.proofs.maps.Named.insert.Goals as goal

pub returns : goal.returns
returns g c = inserted names_total exact_names c.self.inside.named.entries c.insert.new.self.entries c.args.name c.args.value c.in_ok-insert.ensures.updates.0 ∙ ap (λ m. map.insert m c.args.name c.args.value) c.self.view_is
