use Rattle.be_order.proofs.tested.test_page.Given as goal

abbrev pub ghost-keep_first : goal.ghost-keep_first
ghost-keep_first g a = g.volume
