use Rattle.be_order.proofs.firsts.first_prepared_into.Given as goal

abbrev pub ghost-first_of : goal.ghost-first_of
ghost-first_of g a = g.volume

abbrev pub ghost-answer_into : goal.ghost-answer_into
ghost-answer_into g a = g.volume
