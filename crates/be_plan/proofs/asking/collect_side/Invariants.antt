use Rattle.be_plan.proofs.asking.collect_side.Given as goal

abbrev pub ghost-collect_chosen : goal.ghost-collect_chosen
ghost-collect_chosen g a = g.volume

abbrev pub ghost-walk_index : goal.ghost-walk_index
ghost-walk_index g a = g.volume
