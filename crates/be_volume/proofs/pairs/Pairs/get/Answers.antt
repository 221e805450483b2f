use Rattle.std.proofs.Common.{sym, ap, ◌∙◌}
use Rattle.std.specs.FinMap as map
use Rattle.std.specs.Cmp.{nat_cmp_total}
use Rattle.be_volume.proofs.MapLemmas.{get_made}
use Rattle.be_volume.proofs.pairs.Pairs.get.Goals as goal

pub returns : goal.returns
returns c = c.get.ensures.value ∙ sym (get_made nat_cmp_total c.self.inside.values.entries c.args.node) ∙ ap (λ m. map.get m c.args.node) c.self.view_is
