use Rattle.be_plan.proofs.coverage.covers.Given as goal

abbrev pub ghost-all_rest : goal.ghost-all_rest
ghost-all_rest g a = g.volume
