use Rattle.be_plan.proofs.walks.walk_alone.Given as goal

abbrev pub ghost-pass_texts : goal.ghost-pass_texts
ghost-pass_texts g a = g.volume

abbrev pub ghost-visit_all : goal.ghost-visit_all
ghost-visit_all g a = g.volume

abbrev pub ghost-pass_unequal : goal.ghost-pass_unequal
ghost-pass_unequal g a = g.volume

abbrev pub ghost-walk_decided : goal.ghost-walk_decided
ghost-walk_decided g a = g.volume
