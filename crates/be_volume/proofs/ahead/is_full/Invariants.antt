use Rattle.be_volume.proofs.ahead.is_full.Given as goal

abbrev pub ghost-may_be_full : goal.ghost-may_be_full
ghost-may_be_full g a = g.volume

abbrev pub ghost-attribute_count : goal.ghost-attribute_count
ghost-attribute_count g a = g.volume
