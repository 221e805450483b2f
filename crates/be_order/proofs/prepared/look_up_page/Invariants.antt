use Rattle.be_order.proofs.prepared.look_up_page.Given as goal

abbrev pub ghost-list_true : goal.ghost-list_true
ghost-list_true g a = g.volume

abbrev pub ghost-ask_page : goal.ghost-ask_page
ghost-ask_page g a = g.volume

abbrev pub ghost-marked_page : goal.ghost-marked_page
ghost-marked_page g a = g.volume
