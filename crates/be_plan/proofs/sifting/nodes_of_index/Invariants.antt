use Rattle.be_plan.proofs.sifting.nodes_of_index.Given as goal

abbrev pub ghost-walk_index : goal.ghost-walk_index
ghost-walk_index g a = g.volume
