use Rattle.be_order.proofs.asked.is_left_true.Given as goal

abbrev pub ghost-is_part_true : goal.ghost-is_part_true
ghost-is_part_true g a = g.volume
