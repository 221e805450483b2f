use Rattle.be_plan.proofs.running.run.Given as goal

abbrev pub ghost-walk_picks : goal.ghost-walk_picks
ghost-walk_picks g a = g.volume
