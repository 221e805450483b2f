use Rattle.be_paged_building.specs.Given.{with_index}
use Rattle.be_paged_building.proofs.given.add_index.Given as goal

abbrev pub ghost-renew : goal.ghost-renew
ghost-renew a = with_index a.volume.now.value a.given.now.0.now a.given.now.1
