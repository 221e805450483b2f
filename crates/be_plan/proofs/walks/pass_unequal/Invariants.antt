use Rattle.be_plan.proofs.walks.pass_unequal.Given as goal

abbrev pub ghost-walk_decided : goal.ghost-walk_decided
ghost-walk_decided g a = g.volume
