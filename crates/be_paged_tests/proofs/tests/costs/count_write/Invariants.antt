use Rattle.be_paged_tests.proofs.tests.costs.count_write.Given as goal

abbrev pub ghost-apply_counted : goal.ghost-apply_counted
ghost-apply_counted a = a._plain.now
