use Rattle.be_plan.proofs.sifting.ask_each.Given as goal

abbrev pub ghost-index_to_walk : goal.ghost-index_to_walk
ghost-index_to_walk g a = g.volume

abbrev pub ghost-nodes_of_index : goal.ghost-nodes_of_index
ghost-nodes_of_index g a = g.volume

abbrev pub ghost-ask_all : goal.ghost-ask_all
ghost-ask_all g a = g.volume
