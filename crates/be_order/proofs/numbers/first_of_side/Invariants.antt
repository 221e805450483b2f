use Rattle.be_order.proofs.numbers.first_of_side.Given as goal

abbrev pub ghost-list_true : goal.ghost-list_true
ghost-list_true g a = g.volume

abbrev pub ghost-first_listed : goal.ghost-first_listed
ghost-first_listed g a = g.volume
