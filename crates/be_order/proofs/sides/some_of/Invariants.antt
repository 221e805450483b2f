use Rattle.be_order.proofs.sides.some_of.Given as goal

abbrev pub ghost-any_ways : goal.ghost-any_ways
ghost-any_ways g a = g.volume

abbrev pub ghost-first_by_numbers : goal.ghost-first_by_numbers
ghost-first_by_numbers g a = g.volume

abbrev pub ghost-first_of_side : goal.ghost-first_of_side
ghost-first_of_side g a = g.volume

abbrev pub ghost-some_of_sides : goal.ghost-some_of_sides
ghost-some_of_sides g a = g.volume
