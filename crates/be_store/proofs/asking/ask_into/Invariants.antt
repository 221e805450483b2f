use Rattle.be_store.proofs.asking.ask_into.Given as goal

abbrev pub ghost-answer_into : goal.ghost-answer_into
ghost-answer_into g a = g.volume
