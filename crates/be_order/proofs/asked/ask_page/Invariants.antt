use Rattle.be_order.proofs.asked.ask_page.Given as goal

abbrev pub ghost-ask_parts : goal.ghost-ask_parts
ghost-ask_parts g a = g.volume

abbrev pub ghost-keep_first : goal.ghost-keep_first
ghost-keep_first g a = g.volume
