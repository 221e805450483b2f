use Rattle.be_paged_tests.proofs.tests.costs.apply_counted.Given as goal

abbrev pub ghost-apply_into : goal.ghost-apply_into
ghost-apply_into g a = g.volume
