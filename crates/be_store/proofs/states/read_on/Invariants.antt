use Rattle.be_store.proofs.states.read_on.Given as goal

abbrev pub ghost-next_list : goal.ghost-next_list
ghost-next_list g a = g.volume
