use Rattle.be_ways.proofs.asking.ways.Given as goal

abbrev pub ghost-answer_into : goal.ghost-answer_into
ghost-answer_into g a = g.volume

abbrev pub ghost-count_recorded : goal.ghost-count_recorded
ghost-count_recorded g a = g.volume
