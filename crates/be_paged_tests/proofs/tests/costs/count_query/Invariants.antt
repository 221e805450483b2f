use Rattle.be_paged_tests.proofs.tests.costs.count_query.Given as goal

abbrev pub ghost-count_answer : goal.ghost-count_answer
ghost-count_answer a = a._plain.now
