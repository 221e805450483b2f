use Rattle.be_volume_state.proofs.pieces.number_ops.Goals as goal

pub attrs-requires : goal.attrs-requires
attrs-requires g c = (g.volume, c.requires.1)
