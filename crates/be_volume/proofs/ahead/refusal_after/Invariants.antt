use Rattle.be_volume.proofs.ahead.refusal_after.Given as goal

abbrev pub ghost-drop_refusal : goal.ghost-drop_refusal
ghost-drop_refusal g a = g.volume

abbrev pub ghost-set_refusal : goal.ghost-set_refusal
ghost-set_refusal g a = g.volume

abbrev pub ghost-unset_refusal : goal.ghost-unset_refusal
ghost-unset_refusal g a = g.volume

abbrev pub ghost-make_refusal : goal.ghost-make_refusal
ghost-make_refusal g a = g.volume

abbrev pub ghost-remove_refusal : goal.ghost-remove_refusal
ghost-remove_refusal g a = g.volume
