use Rattle.be_plan.proofs.choosing.choose_from.Given as goal

abbrev pub ghost-choose_by_source : goal.ghost-choose_by_source
ghost-choose_by_source g a = g.volume
