use Rattle.be_plan.proofs.asking.answer.Given as goal

abbrev pub ghost-answer_into : goal.ghost-answer_into
ghost-answer_into g a = g.volume
