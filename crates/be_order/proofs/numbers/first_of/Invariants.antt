use Rattle.be_order.proofs.numbers.first_of.Given as goal

abbrev pub ghost-first_ways : goal.ghost-first_ways
ghost-first_ways g a = g.volume

abbrev pub ghost-first_by_numbers : goal.ghost-first_by_numbers
ghost-first_by_numbers g a = g.volume

abbrev pub ghost-first_of_side : goal.ghost-first_of_side
ghost-first_of_side g a = g.volume
