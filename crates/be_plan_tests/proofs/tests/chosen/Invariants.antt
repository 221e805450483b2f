use Rattle.be_plan_tests.proofs.tests.chosen.Given as goal

abbrev pub ghost-choose_from : goal.ghost-choose_from
ghost-choose_from a = a.source.now
