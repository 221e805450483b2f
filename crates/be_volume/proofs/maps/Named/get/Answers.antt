use Rattle.std.proofs.Common.{sym, ap, ◌∙◌}
use Rattle.std.specs.FinMap as map
use Rattle.be_volume.proofs.MapLemmas.{names_total, get_made}
use Rattle.be_volume.proofs.maps.Named.get.Goals as goal

pub returns : goal.returns
returns g c = c.get.ensures.value ∙ sym (get_made names_total c.self.inside.named.entries c.args.name.now) ∙ ap (λ m. map.get m c.args.name.now) c.self.view_is
