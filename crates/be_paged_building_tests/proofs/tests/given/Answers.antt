use Rattle.be_paged_building_tests.proofs.tests.given.Goals as goal

pub returns : goal.returns
returns g c = record { version = (c.in_ok-version.version.1.value, c.in_ok-version.ensures.ok) }
