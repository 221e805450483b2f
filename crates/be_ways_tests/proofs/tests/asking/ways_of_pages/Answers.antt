use Rattle.be_ways_tests.proofs.tests.asking.ways_of_pages.Goals as goal

pub source-source-requires : goal.source-source-requires
source-source-requires g c = record { version = (g.volume, c.requires.1) }
