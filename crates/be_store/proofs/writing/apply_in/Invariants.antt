use Rattle.be_store.proofs.writing.apply_in.Given as goal

abbrev pub ghost-apply_into : goal.ghost-apply_into
ghost-apply_into g a = g.volume

abbrev pub ghost-apply_apart : goal.ghost-apply_apart
ghost-apply_apart g a = g.volume
