use Rattle.be_paged_building.specs.Given.{with_node}
use Rattle.be_paged_building.proofs.given.add_node.Given as goal

abbrev pub ghost-renew : goal.ghost-renew
ghost-renew a = with_node a.volume.now.value a.given.now
