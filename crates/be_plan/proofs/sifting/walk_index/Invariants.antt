use Rattle.be_plan.proofs.sifting.walk_index.Given as goal

abbrev pub ghost-walk_alone : goal.ghost-walk_alone
ghost-walk_alone g a = g.volume
