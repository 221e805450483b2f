use Rattle.be_ways_tests.proofs.tests.asking.ways_of_both.Given as goal

abbrev pub ghost-ways_of_pages : goal.ghost-ways_of_pages
ghost-ways_of_pages a = a._plain.now
