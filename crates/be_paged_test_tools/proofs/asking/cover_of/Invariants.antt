use Rattle.be_paged_test_tools.proofs.asking.cover_of.Given as goal

abbrev pub ghost-choose_from : goal.ghost-choose_from
ghost-choose_from g a = g.volume
