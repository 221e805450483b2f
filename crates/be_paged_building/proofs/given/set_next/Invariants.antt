use Rattle.be_paged_building.specs.Given.{with_next}
use Rattle.be_paged_building.proofs.given.set_next.Given as goal

abbrev pub ghost-renew : goal.ghost-renew
ghost-renew a = with_next a.volume.now.value a.given.now
