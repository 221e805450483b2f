use Rattle.be_plan_tests.proofs.tests.counting.nodes_chosen.Given as goal

abbrev pub ghost-choose_from : goal.ghost-choose_from
ghost-choose_from a = a.source.now.source

abbrev pub ghost-run : goal.ghost-run
ghost-run a = a.source.now.source
