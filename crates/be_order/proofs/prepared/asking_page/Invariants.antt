use Rattle.be_order.proofs.prepared.asking_page.Given as goal

abbrev pub ghost-ask_page : goal.ghost-ask_page
ghost-ask_page g a = g.volume
