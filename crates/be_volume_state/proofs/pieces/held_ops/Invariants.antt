use Rattle.be_volume_state.proofs.pieces.held_ops.Given as goal

abbrev pub ghost-push_held : goal.ghost-push_held
ghost-push_held g a = g.volume
