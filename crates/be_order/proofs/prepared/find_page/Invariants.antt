use Rattle.be_order.proofs.prepared.find_page.Given as goal

abbrev pub ghost-paces_of : goal.ghost-paces_of
ghost-paces_of g a = g.volume

abbrev pub ghost-asking_page : goal.ghost-asking_page
ghost-asking_page g a = g.volume

abbrev pub ghost-look_up_page : goal.ghost-look_up_page
ghost-look_up_page g a = g.volume

abbrev pub ghost-text_page : goal.ghost-text_page
ghost-text_page g a = g.volume
