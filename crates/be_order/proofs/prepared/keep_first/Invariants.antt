use Rattle.be_order.proofs.prepared.keep_first.Given as goal

abbrev pub ghost-key_held : goal.ghost-key_held
ghost-key_held g a = g.volume
