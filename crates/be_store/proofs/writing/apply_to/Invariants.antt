use Rattle.be_store.proofs.writing.apply_to.Given as goal

abbrev pub ghost-apply_in : goal.ghost-apply_in
ghost-apply_in g a = g.volume
