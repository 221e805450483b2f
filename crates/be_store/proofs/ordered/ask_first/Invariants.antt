use Rattle.be_store.proofs.ordered.ask_first.Given as goal

abbrev pub ghost-first_prepared_into : goal.ghost-first_prepared_into
ghost-first_prepared_into g a = g.volume
