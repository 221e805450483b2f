use Rattle.be_order.proofs.pages.ordered_into.Given as goal

abbrev pub ghost-answer_into : goal.ghost-answer_into
ghost-answer_into g a = g.volume

abbrev pub ghost-keep_page : goal.ghost-keep_page
ghost-keep_page g a = g.volume
