use Rattle.std.proofs.Common.{sym, ap, ◌∙◌}
use Rattle.std.specs.FinMap as map
use Rattle.be_volume.proofs.MapLemmas.{names_total, len_made}
use Rattle.be_volume.proofs.maps.Named.len.Goals as goal

pub returns : goal.returns
returns g c = c.len.ensures.len ∙ sym (len_made names_total c.self.inside.named.entries c.len.ensures.ordered) ∙ ap map.len c.self.view_is
