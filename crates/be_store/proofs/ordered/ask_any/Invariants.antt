use Rattle.be_store.proofs.ordered.ask_any.Given as goal

abbrev pub ghost-any_prepared_into : goal.ghost-any_prepared_into
ghost-any_prepared_into g a = g.volume
