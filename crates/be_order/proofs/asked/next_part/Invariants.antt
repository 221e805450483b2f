use Rattle.be_order.proofs.asked.next_part.Given as goal

abbrev pub ghost-keep_first : goal.ghost-keep_first
ghost-keep_first g a = g.volume
