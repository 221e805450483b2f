use Rattle.be_paged_tests.proofs.tests.costs.count_answer.Given as goal

abbrev pub ghost-answer : goal.ghost-answer
ghost-answer g a = g.volume
