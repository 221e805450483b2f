use Rattle.be_store.proofs.ordered.ask_page.Given as goal

abbrev pub ghost-ordered_prepared_into : goal.ghost-ordered_prepared_into
ghost-ordered_prepared_into g a = g.volume
