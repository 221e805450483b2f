use Rattle.be_order.proofs.sides.some_on_page.Given as goal

abbrev pub ghost-page_beside : goal.ghost-page_beside
ghost-page_beside g a = g.volume
