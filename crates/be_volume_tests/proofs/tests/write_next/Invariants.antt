use Rattle.be_volume_tests.proofs.tests.write_next.Given as goal

abbrev pub ghost-next_list : goal.ghost-next_list
ghost-next_list a = a.whole.now
