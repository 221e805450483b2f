use Rattle.be_paged_building.specs.Given.{with_held}
use Rattle.be_paged_building.proofs.given.add_attribute.Given as goal

abbrev pub ghost-renew : goal.ghost-renew
ghost-renew a = with_held a.volume.now.value a.given.now.0 a.given.now.1.now a.given.now.2.now a.given.now.3
