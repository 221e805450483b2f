use Rattle.be_volume.proofs.ahead.drop_refusal.Given as goal

abbrev pub ghost-has_node : goal.ghost-has_node
ghost-has_node g a = g.volume
