use Rattle.be_store.proofs.asking.ask_prepared.Given as goal

abbrev pub ghost-ask_into : goal.ghost-ask_into
ghost-ask_into g a = g.volume
