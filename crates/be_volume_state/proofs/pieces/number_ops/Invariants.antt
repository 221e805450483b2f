use Rattle.be_volume_state.proofs.pieces.number_ops.Given as goal

abbrev pub ghost-push_outside : goal.ghost-push_outside
ghost-push_outside g a = g.volume
