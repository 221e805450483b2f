use Rattle.be_volume_state.proofs.lists.next_list.Given as goal

abbrev pub ghost-fill : goal.ghost-fill
ghost-fill g a = g.volume
