use Rattle.be_volume.proofs.ahead.remove_refusal.Given as goal

abbrev pub ghost-has_index : goal.ghost-has_index
ghost-has_index g a = g.volume
