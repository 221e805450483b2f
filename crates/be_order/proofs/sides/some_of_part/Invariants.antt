use Rattle.be_order.proofs.sides.some_of_part.Given as goal

abbrev pub ghost-some_within : goal.ghost-some_within
ghost-some_within g a = g.volume

abbrev pub ghost-some_on_page : goal.ghost-some_on_page
ghost-some_on_page g a = g.volume
