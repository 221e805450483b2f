use Rattle.be_order.proofs.prepared.page_beside.Given as goal

abbrev pub ghost-find_page : goal.ghost-find_page
ghost-find_page g a = g.volume
