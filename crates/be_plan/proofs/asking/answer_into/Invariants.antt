use Rattle.be_plan.proofs.asking.answer_into.Given as goal

abbrev pub ghost-true_nodes_into : goal.ghost-true_nodes_into
ghost-true_nodes_into g a = g.volume
