use Rattle.be_plan.proofs.asking.collect_chosen.Given as goal

abbrev pub ghost-choose_fewest : goal.ghost-choose_fewest
ghost-choose_fewest g a = g.volume

abbrev pub ghost-walk_picks : goal.ghost-walk_picks
ghost-walk_picks g a = g.volume
