use Rattle.be_order.proofs.prepared.ordered_prepared_into.Given as goal

abbrev pub ghost-walk_page : goal.ghost-walk_page
ghost-walk_page g a = g.volume

abbrev pub ghost-page_beside : goal.ghost-page_beside
ghost-page_beside g a = g.volume

abbrev pub ghost-ordered_into : goal.ghost-ordered_into
ghost-ordered_into g a = g.volume
