use Rattle.be_paged.proofs.writes.refusal.Given as goal

abbrev pub ghost-first_refusal : goal.ghost-first_refusal
ghost-first_refusal g a = g.volume
