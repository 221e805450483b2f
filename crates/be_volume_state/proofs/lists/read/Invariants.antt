use Rattle.be_volume_state.proofs.lists.read.Given as goal

abbrev pub ghost-number_ops : goal.ghost-number_ops
ghost-number_ops g a = g.volume

abbrev pub ghost-index_ops : goal.ghost-index_ops
ghost-index_ops g a = g.volume

abbrev pub ghost-held_ops : goal.ghost-held_ops
ghost-held_ops g a = g.volume
