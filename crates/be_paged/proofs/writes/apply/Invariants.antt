use Rattle.be_paged.proofs.writes.apply.Given as goal

abbrev pub ghost-apply_into : goal.ghost-apply_into
ghost-apply_into g a = g.volume
