use Rattle.be_order.proofs.pages.keep_page.Given as goal

abbrev pub ghost-keys_after : goal.ghost-keys_after
ghost-keys_after g a = g.volume
