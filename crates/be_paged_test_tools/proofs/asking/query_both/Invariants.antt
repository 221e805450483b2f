use Rattle.be_paged_test_tools.proofs.asking.query_both.Given as goal

abbrev pub ghost-ask : goal.ghost-ask
ghost-ask g a = a._plain.now
