use Rattle.be_plan_tests.proofs.tests.sizes.by_answer.Given as goal

abbrev pub ghost-answer : goal.ghost-answer
ghost-answer a = a.source.now
