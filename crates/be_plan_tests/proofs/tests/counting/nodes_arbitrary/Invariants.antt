use Rattle.be_plan_tests.proofs.tests.counting.nodes_arbitrary.Given as goal

abbrev pub ghost-answer : goal.ghost-answer
ghost-answer a = a.source.now.source
