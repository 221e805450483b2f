use Rattle.be_volume.proofs.ahead.make_refusal.Given as goal

abbrev pub ghost-has_index : goal.ghost-has_index
ghost-has_index g a = g.volume

abbrev pub ghost-index_count : goal.ghost-index_count
ghost-index_count g a = g.volume
