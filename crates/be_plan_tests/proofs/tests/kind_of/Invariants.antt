use Rattle.be_plan_tests.proofs.tests.kind_of.Given as goal

abbrev pub ghost-kind_by : goal.ghost-kind_by
ghost-kind_by a = a.source
