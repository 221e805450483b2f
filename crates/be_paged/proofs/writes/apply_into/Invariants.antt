use Rattle.be_paged.proofs.writes.apply_into.Given as goal

abbrev pub ghost-refusal : goal.ghost-refusal
ghost-refusal g a = g.volume
