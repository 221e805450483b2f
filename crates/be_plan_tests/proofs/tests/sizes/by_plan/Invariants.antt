use Rattle.be_plan_tests.proofs.tests.sizes.by_plan.Given as goal

abbrev pub ghost-choose_from : goal.ghost-choose_from
ghost-choose_from a = a.source.now

abbrev pub ghost-run : goal.ghost-run
ghost-run a = a.source.now
