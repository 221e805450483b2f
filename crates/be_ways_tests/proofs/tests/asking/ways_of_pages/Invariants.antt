use Rattle.be_ways_tests.proofs.tests.asking.ways_of_pages.Given as goal

abbrev pub ghost-ways : goal.ghost-ways
ghost-ways g a = g.volume
