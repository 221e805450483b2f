use Rattle.be_volume.proofs.ahead.sets_again.Given as goal

abbrev pub ghost-has_attribute : goal.ghost-has_attribute
ghost-has_attribute g a = g.volume
