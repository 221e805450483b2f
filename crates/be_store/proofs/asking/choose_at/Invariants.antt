use Rattle.be_store.proofs.asking.choose_at.Given as goal

abbrev pub ghost-choose_from : goal.ghost-choose_from
ghost-choose_from g a = g.volume
