use Rattle.be_store.proofs.writing.apply_apart.Given as goal

abbrev pub ghost-apply_into : goal.ghost-apply_into
ghost-apply_into g a = g.volume
