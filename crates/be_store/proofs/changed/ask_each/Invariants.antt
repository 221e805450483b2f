use Rattle.be_store.proofs.changed.ask_each.Given as goal

abbrev pub ghost-ask_nodes : goal.ghost-ask_nodes
ghost-ask_nodes g a = g.volume
