use Rattle.be_order.proofs.numbers.first_by_numbers.Given as goal

abbrev pub ghost-first_tested : goal.ghost-first_tested
ghost-first_tested g a = g.volume
