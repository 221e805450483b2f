use Rattle.be_plan_tests.proofs.tests.counting.nodes_by.Given as goal

abbrev pub ghost-covers : goal.ghost-covers
ghost-covers a = a.source.now.source

abbrev pub ghost-run : goal.ghost-run
ghost-run a = a.source.now.source
