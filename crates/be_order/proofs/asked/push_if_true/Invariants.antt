use Rattle.be_order.proofs.asked.push_if_true.Given as goal

abbrev pub ghost-is_left_true : goal.ghost-is_left_true
ghost-is_left_true g a = g.volume
