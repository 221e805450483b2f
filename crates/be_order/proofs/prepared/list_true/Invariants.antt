use Rattle.be_order.proofs.prepared.list_true.Given as goal

abbrev pub ghost-true_nodes_into : goal.ghost-true_nodes_into
ghost-true_nodes_into g a = g.volume
