use Rattle.be_ways.proofs.asking.count_recorded.Given as goal

abbrev pub ghost-count_all : goal.ghost-count_all
ghost-count_all g a = g.volume
