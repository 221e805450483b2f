use Rattle.be_plan.proofs.narrowing.narrow_by_integer.Given as goal

abbrev pub ghost-narrow_by : goal.ghost-narrow_by
ghost-narrow_by g a = g.bound
