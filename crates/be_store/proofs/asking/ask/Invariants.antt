use Rattle.be_store.proofs.asking.ask.Given as goal

abbrev pub ghost-answer : goal.ghost-answer
ghost-answer g a = g.volume
