use Rattle.be_volume.proofs.ahead.set_refusal.Given as goal

abbrev pub ghost-has_attribute : goal.ghost-has_attribute
ghost-has_attribute g a = g.volume

abbrev pub ghost-has_node : goal.ghost-has_node
ghost-has_node g a = g.volume

abbrev pub ghost-is_full : goal.ghost-is_full
ghost-is_full g a = g.volume
