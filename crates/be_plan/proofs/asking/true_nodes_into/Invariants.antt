use Rattle.be_plan.proofs.asking.true_nodes_into.Given as goal

abbrev pub ghost-collect : goal.ghost-collect
ghost-collect g a = g.volume
