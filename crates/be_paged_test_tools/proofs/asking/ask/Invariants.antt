use Rattle.be_paged_test_tools.proofs.asking.ask.Given as goal

abbrev pub ghost-cover_of : goal.ghost-cover_of
ghost-cover_of g a = g.volume

abbrev pub ghost-covers : goal.ghost-covers
ghost-covers g a = g.volume

abbrev pub ghost-run : goal.ghost-run
ghost-run g a = g.volume
