use Rattle.be_order.proofs.firsts.any_prepared_into.Given as goal

abbrev pub ghost-meet_own : goal.ghost-meet_own
ghost-meet_own g a = g.volume

abbrev pub ghost-walk_any : goal.ghost-walk_any
ghost-walk_any g a = g.volume

abbrev pub ghost-answer_into : goal.ghost-answer_into
ghost-answer_into g a = g.volume

abbrev pub ghost-some_of : goal.ghost-some_of
ghost-some_of g a = g.volume
