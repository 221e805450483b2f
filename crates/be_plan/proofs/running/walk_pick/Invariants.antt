use Rattle.be_plan.proofs.running.walk_pick.Given as goal

abbrev pub ghost-ask_each : goal.ghost-ask_each
ghost-ask_each g a = g.volume

abbrev pub ghost-walk_alone : goal.ghost-walk_alone
ghost-walk_alone g a = g.volume
