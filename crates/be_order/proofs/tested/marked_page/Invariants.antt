use Rattle.be_order.proofs.tested.marked_page.Given as goal

abbrev pub ghost-test_page : goal.ghost-test_page
ghost-test_page g a = g.volume
